-- The outcome of a call that compares two ratings settles its answer; so two outcomes that it allows answer the same, and the table handed back clear is the same in
-- every cell. Assumes nothing.
use Prim.Native.Nat.{ℕ, ◌≤◌}
use mathlib.Core.Path.{◌≡◌, sym, ap, ◌∙◌}
use mathlib.Core.Bool.{Bool, true, false≢true}
use mathlib.Core.List.{List}
use native.Mathlib.Omega.{arith}
use lib.IntN.{ℤ}
use lib.ListN.{length}
use Rattle.rules.specs.declared.Worth.{Worth}
use Rattle.rules.specs.declared.Worth.TheVariants.{Ends, Refused}
use Rattle.rules.specs.Refusal.{cells}
use Rattle.rules.specs.Answer.{unless, table_after}
use Rattle.rules.specs.Worth.{Weighs}
use Rattle.rules.proofs.Sure.{weighs}
use Rattle.rules.proofs.Unless.{unless-none, unless-some}
use Rattle.places.specs.Cells.{Kept}
use Rattle.stretches.specs.Outcome.{Used, cleared_if, Answers}
use Rattle.stretches.proofs.Used.{used-refused, used-answered, used-cleared}
use Rattle.swaps.specs.Compared.{is_ends, Compared, Returned}

-- an answer by its refusal
answers : (r : Worth) (refusal : ℕ) (lower upper : ℤ) → Weighs r refusal lower upper → Answers (is_ends r) refusal
answers (Ends l h) refusal lower upper given = given.0
answers (Refused number) refusal lower upper given = λ none. omega (arith, given.1)

accepted : (r : Worth) (refusal : ℕ) (lower upper : ℤ) → Weighs r refusal lower upper → is_ends r ≡ true → refusal ≡ 0
accepted (Ends l h) refusal lower upper given e = given.0
accepted (Refused number) refusal lower upper given e = absurd (false≢true e)

abbrev answer_by : (refusal : ℕ) (lower upper : ℤ) → Worth
answer_by refusal lower upper = unless refusal Refused (Ends lower upper)

module _ {refusal : ℕ} {lower upper : ℤ} {t₀ : List ℕ} where
  -- ---- the table as it was worked

  pub compared : {t : List ℕ} {r : Worth} → r ≡ answer_by refusal lower upper → Used refusal t₀ t → Compared refusal lower upper t₀ t r
  compared {r = r} e used = record { answer = (weighs r _ _ _).1 e; table = used }

  pub compared_is : {t : List ℕ} {r : Worth} → Compared refusal lower upper t₀ t r → r ≡ answer_by refusal lower upper
  compared_is {r = r} h = (weighs r _ _ _).0 h.answer

  pub same-compared : {t t' : List ℕ} {r r' : Worth} → Compared refusal lower upper t₀ t r → Compared refusal lower upper t₀ t' r'
      → (r ≡ r') × ((refusal ≡ 0 → ⊥) → t ≡ t')
  same-compared p p' = (compared_is p ∙ sym (compared_is p'), λ some. p.table.untouched some ∙ sym (p'.table.untouched some))

  -- the two ways that a call ends
  pub compared-refused : {r : ℕ} → r ≡ refusal → (r ≡ 0 → ⊥) → Compared refusal lower upper t₀ t₀ (Refused r)
  compared-refused {r} e some =
      let refused : refusal ≡ 0 → ⊥ = λ none. some (e ∙ none) in
      compared (ap Refused e ∙ sym (unless-some _ _ _ refused)) (used-refused refused)

  pub compared-found : {t : List ℕ} {r : Worth} → refusal ≡ 0 → r ≡ Ends lower upper → Kept t₀ t → Compared refusal lower upper t₀ t r
  compared-found none ends kept = compared (ends ∙ sym (unless-none _ _ _ none)) (used-answered none kept)

  -- after an answer there are cells to be cleared, and cleared they are
  module _ {t : List ℕ} {r : Worth} (h : Compared refusal lower upper t₀ t r) {b : Bool} (is : b ≡ is_ends r) where
    pub clear-fits : (refusal ≡ 0 → cells ≤ length t₀) → b ≡ true → cells ≤ length t
    clear-fits room e = omega (arith, room (accepted r _ _ _ h.answer (sym is ∙ e)), h.table.kept.long)

    pub compared-cleared : {t' : List ℕ} → t' ≡ cleared_if b t → Returned refusal lower upper t₀ t' r
    compared-cleared cleared =
        let e = rw is at cleared in
        record { answer = h.answer; table = used-cleared (is_ends r) (answers r _ _ _ h.answer) h.table e }

  -- ---- the table handed back clear

  pub returned : {t : List ℕ} {r : Worth} → r ≡ answer_by refusal lower upper → t ≡ table_after refusal t₀ → Returned refusal lower upper t₀ t r
  returned {r = r} e d = record { answer = (weighs r _ _ _).1 e; table = d }

  pub returned-is : {t : List ℕ} {r : Worth} → Returned refusal lower upper t₀ t r → r ≡ answer_by refusal lower upper
  returned-is {r = r} h = (weighs r _ _ _).0 h.answer

  pub same-returned : {t t' : List ℕ} {r r' : Worth} → Returned refusal lower upper t₀ t r → Returned refusal lower upper t₀ t' r' → (r ≡ r') × (t ≡ t')
  same-returned p p' = (returned-is p ∙ sym (returned-is p'), p.table ∙ sym p'.table)
