-- The call's contract settles its answer, which is the definitions' rating; so two outcomes that it allows answer the same, and the table handed back clear is the
-- same in every cell; and of a range that it answers the enclosure holds. Assumes nothing.
use Prim.Native.Nat.{ℕ, ◌≤◌}
use mathlib.Core.Path.{◌≡◌, sym, ap, ap₂, ◌∙◌}
use mathlib.Core.Bool.{Bool, true, false}
use mathlib.Core.List.{List}
use native.Mathlib.Omega.{arith}
use lib.ListN.{length}
use Rattle.rules.specs.declared.Rating.{Rating}
use Rattle.rules.specs.declared.Rating.TheVariants.{Range, Refused}
use Rattle.rules.specs.Refusal.{cells}
use Rattle.rules.specs.Answer.{table_after}
use Rattle.rules.specs.Doubles.{Planned, asked_in, planned_refusal, planned_rating, SpannedOf}
use Rattle.rules.proofs.Answer.{rates}
use Rattle.rules.proofs.Unless.{unless-none, unless-some}
use Rattle.rules.proofs.Doubles.{passed, planned-answers}
use Rattle.places.specs.declared.Ends.{Ends}
use Rattle.places.proofs.Cells.{kept_trans}
use Rattle.stretches.specs.Outcome.{Worked, Used, is_range, cleared_if}
use Rattle.stretches.proofs.Used.{used-refused, used-answered, range-accepted, range-cleared}
use Rattle.planning.specs.Outcome.{Answered, Rated}

module _ {q : Planned} {t₀ : List ℕ} where
  -- ---- the call

  pub answered : {t : List ℕ} {r : Rating} → r ≡ planned_rating q t₀ → Used (planned_refusal q t₀) t₀ t → Answered q t₀ t r
  unfolding planned_rating
  answered {r = r} e used = record { answer = (rates r _ _ _).1 e; table = used }

  pub answer-is : {t : List ℕ} {r : Rating} → Answered q t₀ t r → r ≡ planned_rating q t₀
  unfolding planned_rating
  answer-is {r = r} h = (rates r _ _ _).0 h.answer

  pub same_answer : {t t' : List ℕ} {r r' : Rating} → Answered q t₀ t r → Answered q t₀ t' r' → (r ≡ r') × ((planned_refusal q t₀ ≡ 0 → ⊥) → t ≡ t')
  same_answer p p' = (answer-is p ∙ sym (answer-is p'), λ some. p.table.untouched some ∙ sym (p'.table.untouched some))

  -- the two ways that it ends
  pub answered-refused : {r : ℕ} → r ≡ planned_refusal q t₀ → (r ≡ 0 → ⊥) → Answered q t₀ t₀ (Refused r)
  unfolding planned_rating
  answered-refused {r} e some =
      let refused : planned_refusal q t₀ ≡ 0 → ⊥ = λ none. some (e ∙ none) in
      answered (ap Refused e ∙ sym (unless-some _ _ _ refused)) (used-refused refused)

  pub answered-worked : planned_refusal q t₀ ≡ 0 → {t t' : List ℕ} {lower upper : Ends} → Worked (asked_in false q) t₀ t lower → Worked (asked_in true q) t t' upper
      → Answered q t₀ t' (Range lower.low upper.high)
  unfolding planned_rating
  answered-worked none lower upper =
      answered (ap₂ Range lower.low upper.high ∙ sym (unless-none _ _ _ none)) (used-answered none (kept_trans lower.kept upper.kept))

  -- after an answer there are cells to be cleared, and cleared they are
  module _ {t : List ℕ} {r : Rating} (h : Answered q t₀ t r) {b : Bool} (is : b ≡ is_range r) where
    pub clear-fits : b ≡ true → cells ≤ length t
    clear-fits e = omega (arith, (passed q t₀ (range-accepted r _ _ _ h.answer is e)).room, h.table.kept.long)

    pub answered-cleared : {t' : List ℕ} → t' ≡ cleared_if b t → Rated q t₀ t' r
    answered-cleared e = record { answer = h.answer; table = range-cleared r _ _ _ h.answer is h.table e }

  -- ---- the table handed back clear

  pub rated : {t : List ℕ} {r : Rating} → r ≡ planned_rating q t₀ → t ≡ table_after (planned_refusal q t₀) t₀ → Rated q t₀ t r
  unfolding planned_rating
  rated {r = r} e d = record { answer = (rates r _ _ _).1 e; table = d }

  pub planned-is : {t : List ℕ} {r : Rating} → Rated q t₀ t r → r ≡ planned_rating q t₀
  unfolding planned_rating
  planned-is {r = r} h = (rates r _ _ _).0 h.answer

  pub same-planned : {t t' : List ℕ} {r r' : Rating} → Rated q t₀ t r → Rated q t₀ t' r' → (r ≡ r') × (t ≡ t')
  same-planned p p' = (planned-is p ∙ sym (planned-is p'), p.table ∙ sym p'.table)

  pub planned-encloses : {t : List ℕ} {l h : ℕ} → Rated q t₀ t (Range l h) → SpannedOf q l h
  planned-encloses r = planned-answers q t₀ _ _ (sym (planned-is r))
