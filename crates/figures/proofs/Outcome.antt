-- The call's contract settles its answer, which is the definitions' rating; so two outcomes that it allows answer the same, and the table handed back clear is
-- the same in every cell. Assumes nothing.
use Prim.Native.Nat.{ℕ, ◌≤◌}
use mathlib.Core.Path.{◌≡◌, sym, ap, ap₂, ◌∙◌}
use mathlib.Core.Bool.{Bool, true}
use mathlib.Core.List.{List}
use native.Mathlib.Omega.{arith}
use lib.ListN.{length}
use Rattle.rules.specs.declared.Rating.{Rating}
use Rattle.rules.specs.declared.Rating.TheVariants.{Range, Refused}
use Rattle.rules.specs.Asked.{Asked}
use Rattle.rules.specs.Refusal.{cells, figures_refusal}
use Rattle.rules.specs.Answer.{table_after, figures_of}
use Rattle.rules.proofs.Accepted.{figures-ratable}
use Rattle.rules.proofs.Answer.{rates}
use Rattle.rules.proofs.Unless.{unless-none, unless-some}
use Rattle.places.specs.declared.Ends.{Ends}
use Rattle.stretches.specs.Outcome.{Worked, Used, is_range, cleared_if}
use Rattle.stretches.proofs.Used.{used-refused, used-answered, range-accepted, range-cleared}
use Rattle.figures.specs.Outcome.{Answered, Rated}

module _ {q : Asked} {t₀ : List ℕ} where
  -- ---- the rating call

  pub answered : {t : List ℕ} {r : Rating} → r ≡ figures_of q t₀ → Used (figures_refusal q t₀) t₀ t → Answered q t₀ t r
  unfolding figures_of
  answered {r = r} e used = record { answer = (rates r _ _ _).1 e; table = used }

  pub answer-is : {t : List ℕ} {r : Rating} → Answered q t₀ t r → r ≡ figures_of q t₀
  unfolding figures_of
  answer-is {r = r} h = (rates r _ _ _).0 h.answer

  pub same_answer : {t t' : List ℕ} {r r' : Rating} → Answered q t₀ t r → Answered q t₀ t' r' → (r ≡ r') × ((figures_refusal q t₀ ≡ 0 → ⊥) → t ≡ t')
  same_answer p p' = (answer-is p ∙ sym (answer-is p'), λ some. p.table.untouched some ∙ sym (p'.table.untouched some))

  -- the two ways that it ends
  pub answered-refused : {r : ℕ} → r ≡ figures_refusal q t₀ → (r ≡ 0 → ⊥) → Answered q t₀ t₀ (Refused r)
  unfolding figures_of
  answered-refused {r} e some =
      let refused : figures_refusal q t₀ ≡ 0 → ⊥ = λ none. some (e ∙ none) in
      answered (ap Refused e ∙ sym (unless-some _ _ _ refused)) (used-refused refused)

  pub answered-worked : figures_refusal q t₀ ≡ 0 → {t : List ℕ} {ends : Ends} → Worked q t₀ t ends → Answered q t₀ t (Range ends.low ends.high)
  unfolding figures_of
  answered-worked none w = answered (ap₂ Range w.low w.high ∙ sym (unless-none _ _ _ none)) (used-answered none w.kept)

  -- after an answer there are cells to be cleared, and cleared they are
  module _ {t : List ℕ} {r : Rating} (h : Answered q t₀ t r) {b : Bool} (is : b ≡ is_range r) where
    pub clear-fits : b ≡ true → cells ≤ length t
    clear-fits e = omega (arith, (figures-ratable q t₀ (range-accepted r _ _ _ h.answer is e)).2.room, h.table.kept.long)

    pub answered-cleared : {t' : List ℕ} → t' ≡ cleared_if b t → Rated q t₀ t' r
    answered-cleared e = record { answer = h.answer; table = range-cleared r _ _ _ h.answer is h.table e }

  -- ---- the table handed back clear

  pub rated : {t : List ℕ} {r : Rating} → r ≡ figures_of q t₀ → t ≡ table_after (figures_refusal q t₀) t₀ → Rated q t₀ t r
  unfolding figures_of
  rated {r = r} e d = record { answer = (rates r _ _ _).1 e; table = d }

  pub figures-are : {t : List ℕ} {r : Rating} → Rated q t₀ t r → r ≡ figures_of q t₀
  unfolding figures_of
  figures-are {r = r} h = (rates r _ _ _).0 h.answer

  pub same-figures : {t t' : List ℕ} {r r' : Rating} → Rated q t₀ t r → Rated q t₀ t' r' → (r ≡ r') × (t ≡ t')
  same-figures p p' = (figures-are p ∙ sym (figures-are p'), p.table ∙ sym p'.table)
