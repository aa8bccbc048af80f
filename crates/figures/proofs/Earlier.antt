-- Document 02, request 05: the further pairs are kind 8's, "which the other kinds do not read". Under every kind but 8 the call leaves what it left before
-- there were any, whatever they are, and whatever the lists of boards that version 1 does not read: its refusals and its outcome stand here as they were. Assumes
-- nothing.
use mathlib.Core.Path.{◌≡◌, refl, ap, ◌∙◌}
use mathlib.Core.Bool.{Bool, true, false, not, ◌&&◌}
use mathlib.Core.List.{List, [], ◌∷◌}
use Prim.Native.Nat.{ℕ, suc, ◌-◌, ◌≤◌}
use native.Mathlib.Omega.{arith}
use native.Mathlib.Decide.{dec_le}
use lib.Dec.{leb}
use lib.ListN.{length}
use borrow.Author.Tests.{le-leb, lt-leb}
use Rattle.rules.specs.declared.Rule.{Rule}
use Rattle.rules.specs.declared.Rating.{Rating}
use Rattle.rules.specs.Below.{within}
use Rattle.rules.specs.State.{S, unit_of}
use Rattle.rules.specs.Figure.{figure, low, high}
use Rattle.rules.specs.Stretch.{stretch}
use Rattle.rules.specs.Asked.{Asked, question_of, asked_of, read_of, rounded_of}
use Rattle.rules.specs.Refusal.{first_of, bad_kind, bad_size, bad_stretch, some_above, bad_weights, in_range, short_table, figures_refusal}
use Rattle.rules.specs.Answer.{Rates, table_after}
use Rattle.rules.proofs.WithoutBoards as without
use Rattle.rules.proofs.Accepted.{beside-weights}
use Rattle.rules.proofs.Answer.{rates-same}
use Rattle.figures.specs.Outcome.{Rated}

-- "1: kind not 1..7"
abbrev pub bad_kind_before : Rule → Bool
bad_kind_before rule = not (within 1 rule.kind 7)

unfoldable pub refusal_before : Rule → (a b : ℕ) (survival weights table : List ℕ) → ℕ
refusal_before rule a b survival weights table =
    first_of
    ((1, bad_kind_before rule)
    ∷ (2, bad_size (length survival))
    ∷ (3, bad_stretch a b (length survival))
    ∷ (4, some_above S (stretch a b survival))
    ∷ (5, bad_weights rule (length survival) weights (stretch a b weights))
    ∷ (6, not (in_range rule (suc b - a) (stretch a b weights)))
    ∷ (7, short_table table)
    ∷ [])

pub record RatedBefore (rule : Rule) (a b : ℕ) (survival weights t₀ t : List ℕ) (r : Rating) : Type 0 where
  pub answer : Rates r (refusal_before rule a b survival weights t₀) (low S rule (stretch a b survival) (stretch a b weights)) (high S rule (stretch a b survival) (stretch a b weights))
  pub table : t ≡ table_after (refusal_before rule a b survival weights t₀) t₀

module _ (rule : Rule) (a b : ℕ) (survival weights more boards switchboards : List ℕ) (earlier : rule.kind ≡ 8 → ⊥) where
  abbrev q : Asked
  q = asked_of (question_of 1 rule a b) survival weights more boards switchboards

  kind-same : bad_kind rule ≡ bad_kind_before rule
  kind-same = ap (λ x. not (leb 1 rule.kind && x)) (go (dec_le rule.kind 7))
    where
      go : Dec (rule.kind ≤ 7) → leb rule.kind 8 ≡ leb rule.kind 7
      go (yes l) = rw (le-leb rule.kind 8 (omega arith), le-leb rule.kind 7 l)
      go (no l) = rw (lt-leb rule.kind 8 (omega (arith, earlier)), lt-leb rule.kind 7 (omega arith))

  read_same : read_of q ≡ stretch a b weights
  read_same = beside-weights rule (stretch a b weights) more earlier

  refusal-same : (table : List ℕ) → figures_refusal q table ≡ refusal_before rule a b survival weights table
  unfolding without.refusal_before refusal_before first_of unit_of
  refusal-same table = without.refusal-before q refl table ∙ rw (kind-same, read_same)

  figure-same : (up : Bool) → rounded_of up q ≡ figure up S rule (stretch a b survival) (stretch a b weights)
  unfolding unit_of
  figure-same up = without.rounded-before q refl up ∙ ap (figure up S rule (stretch a b survival)) read_same

  pub rated-as-before : {t₀ t : List ℕ} {r : Rating} → Rated q t₀ t r → RatedBefore rule a b survival weights t₀ t r
  unfolding unit_of
  rated-as-before {t₀} {t} {r} h = record {
    answer = rates-same r (refusal-same t₀) (λ e. (figure-same false, figure-same true)) h.answer;
    table = h.table ∙ ap (λ x. table_after x t₀) (refusal-same t₀);
  }
