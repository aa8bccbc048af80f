-- A lent table as a call leaves it: what a call that does not clear it has left, cleared after an answer, is the definitions' table after the call. Assumes nothing.
use Prim.Native.Nat.{ℕ}
use mathlib.Core.Path.{◌≡◌, refl, sym, ap, ◌∙◌}
use mathlib.Core.Bool.{Bool, true, false}
use mathlib.Core.List.{List, ◌++◌}
use native.Mathlib.Omega.{arith}
use lib.ListN.{replicate}
use Rattle.rules.specs.declared.Rating.{Rating}
use Rattle.rules.specs.declared.Rating.TheVariants.{Range, Refused}
use Rattle.rules.specs.Refusal.{cells}
use Rattle.rules.specs.Answer.{Rates, cleared, table_after}
use Rattle.rules.proofs.Unless.{unless-none, unless-some}
use Rattle.places.specs.Cells.{Kept}
use Rattle.stretches.specs.Outcome.{Used, is_range, cleared_if, Answers}

-- a table whose rest was kept, cleared
pub kept-cleared : (t₀ t : List ℕ) → Kept t₀ t → cleared t ≡ cleared t₀
kept-cleared t₀ t k = ap (λ rest. replicate cells 0 ++ rest) k.rest

-- what a refusal leaves, and what an answer leaves
pub used-refused : {refusal : ℕ} {t₀ : List ℕ} → (refusal ≡ 0 → ⊥) → Used refusal t₀ t₀
used-refused some = record { untouched = λ h. refl; kept = record { long = refl; rest = refl } }

pub used-answered : {refusal : ℕ} {t₀ t : List ℕ} → refusal ≡ 0 → Kept t₀ t → Used refusal t₀ t
used-answered none kept = record { untouched = λ some. absurd (some none); kept = kept }

-- and that cleared after an answer
pub used-cleared : (answered : Bool) {refusal : ℕ} {t₀ t t' : List ℕ} → Answers answered refusal → Used refusal t₀ t → t' ≡ cleared_if answered t
    → t' ≡ table_after refusal t₀
used-cleared true {t₀ = t₀} {t = t} none used e = e ∙ kept-cleared t₀ t used.kept ∙ sym (unless-none _ _ _ none)
used-cleared false some used e = e ∙ used.untouched some ∙ sym (unless-some _ _ _ some)

-- ---- the same of a rating by its cases

ranged : (r : Rating) (refusal low high : ℕ) → Rates r refusal low high → Answers (is_range r) refusal
ranged (Range l h) refusal low high given = given.0
ranged (Refused number) refusal low high given = λ none. omega (arith, given.1)

module _ (r : Rating) (refusal low high : ℕ) (given : Rates r refusal low high) {b : Bool} (is : b ≡ is_range r) where
  pub range-accepted : b ≡ true → refusal ≡ 0
  range-accepted e = rw (sym is ∙ e) at (ranged r refusal low high given)

  pub range-cleared : {t₀ t t' : List ℕ} → Used refusal t₀ t → t' ≡ cleared_if b t → t' ≡ table_after refusal t₀
  range-cleared used e = used-cleared b (rw is (ranged r refusal low high given)) used e
