-- Document 02, request 08: "version 1 keeps 2^30". Handed version 1 the call leaves what it left when it had no version, for every input, whatever the lists of
-- boards, which version 1 does not read: its refusals and its outcome stand here as they were. Assumes nothing.
use mathlib.Core.Path.{◌≡◌, refl, ap, ◌∙◌}
use mathlib.Core.Bool.{Bool, true, false, not}
use mathlib.Core.List.{List, [], ◌∷◌}
use Prim.Native.Nat.{ℕ, suc, ◌-◌}
use lib.ListN.{length}
use Rattle.rules.specs.declared.Rule.{Rule}
use Rattle.rules.specs.declared.Rating.{Rating}
use Rattle.rules.specs.State.{S, unit_of, beside_of}
use Rattle.rules.specs.Figure.{figure, low, high}
use Rattle.rules.specs.Stretch.{stretch}
use Rattle.rules.specs.Asked.{Asked, question_of, asked_of, rounded_of}
use Rattle.rules.specs.Refusal.{first_of, bad_kind, bad_size, bad_stretch, some_above, bad_weights, in_range, short_table, figures_refusal}
use Rattle.rules.specs.Answer.{Rates, table_after}
use Rattle.rules.proofs.WithoutBoards.{refusal_before, refusal-before, rounded-before}
use Rattle.rules.proofs.Answer.{rates-same}
use Rattle.figures.specs.Outcome.{Rated}

module _ (rule : Rule) (a b : ℕ) (survival weights more : List ℕ) where
  abbrev beside : List ℕ
  beside = beside_of rule (stretch a b weights) more

  -- 4 against 2^30, and no 11
  unfoldable pub refusalOfOne : (table : List ℕ) → ℕ
  refusalOfOne table =
      first_of
      ((1, bad_kind rule)
      ∷ (2, bad_size (length survival))
      ∷ (3, bad_stretch a b (length survival))
      ∷ (4, some_above S (stretch a b survival))
      ∷ (5, bad_weights rule (length survival) weights (stretch a b weights))
      ∷ (6, not (in_range rule (suc b - a) beside))
      ∷ (7, short_table table)
      ∷ [])

  pub record RatedOfOne (t₀ t : List ℕ) (r : Rating) : Type 0 where
    pub answer : Rates r (refusalOfOne t₀) (low S rule (stretch a b survival) beside) (high S rule (stretch a b survival) beside)
    pub table : t ≡ table_after (refusalOfOne t₀) t₀

  module _ (boards switchboards : List ℕ) where
    abbrev q : Asked
    q = asked_of (question_of 1 rule a b) survival weights more boards switchboards

    refusal-same : (table : List ℕ) → figures_refusal q table ≡ refusalOfOne table
    unfolding refusal_before refusalOfOne first_of unit_of
    refusal-same table = refusal-before q refl table

    figure-same : (up : Bool) → rounded_of up q ≡ figure up S rule (stretch a b survival) beside
    unfolding unit_of
    figure-same up = rounded-before q refl up

    pub first-as-before : {t₀ t : List ℕ} {r : Rating} → Rated q t₀ t r → RatedOfOne t₀ t r
    first-as-before {t₀} {t} {r} h = record {
      answer = rates-same r (refusal-same t₀) (λ e. (figure-same false, figure-same true)) h.answer;
      table = h.table ∙ ap (λ x. table_after x t₀) (refusal-same t₀);
    }
