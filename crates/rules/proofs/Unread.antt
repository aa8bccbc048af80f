-- A list beside the rule is read by kinds 2 and 8 alone: under the others any two lists have the same range, figures, verdict, place, counts and exact sum. Assumes nothing.
use mathlib.Core.Path.{◌≡◌, refl, ap, ◌∙◌}
use mathlib.Core.Bool.{Bool, true, false, cond, not}
use mathlib.Core.List.{List}
use Prim.Native.Nat.{ℕ, zero, suc}
use native.Mathlib.Omega.{arith}
use lib.Dec.{eqb}
use lib.ListN.{length}
use borrow.Author.Tests.{eqb-true, eqb-false}
use Rattle.rules.specs.declared.Rule.{Rule}
use Rattle.rules.specs.Below.{total, list_below}
use Rattle.rules.specs.State.{number_of, rule_of, beside_of}
use Rattle.rules.specs.Verdict.{fails, place_of}
use Rattle.rules.specs.Count.{count_if, counts_of}
use Rattle.rules.specs.Memory.{reading_of}
use Rattle.rules.specs.Figure.{figure_of, figure, exact_if, exact}
use Rattle.rules.specs.Refusal.{ranged, in_range}
use Rattle.rules.specs.Accepted.{Accepted}

-- a kind that reads none
pub record Unread (kind : ℕ) : Type 0 where
  pub not_two : kind ≡ 2 → ⊥
  pub not_eight : kind ≡ 8 → ⊥

-- what holds of every kind but 8, and of every kind but 2 and 8
but-eight {ℓ} : (P : ℕ → Type ℓ) → P 0 → P 1 → P 2 → P 3 → P 4 → P 5 → P 6 → P 7 → ((k : ℕ) → P (suc (suc (suc (suc (suc (suc (suc (suc (suc k)))))))))) → (kind : ℕ) → (kind ≡ 8 → ⊥) → P kind
but-eight P a b c d e f g h i zero none = a
but-eight P a b c d e f g h i (suc zero) none = b
but-eight P a b c d e f g h i (suc (suc zero)) none = c
but-eight P a b c d e f g h i (suc (suc (suc zero))) none = d
but-eight P a b c d e f g h i (suc (suc (suc (suc zero)))) none = e
but-eight P a b c d e f g h i (suc (suc (suc (suc (suc zero))))) none = f
but-eight P a b c d e f g h i (suc (suc (suc (suc (suc (suc zero)))))) none = g
but-eight P a b c d e f g h i (suc (suc (suc (suc (suc (suc (suc zero))))))) none = h
but-eight P a b c d e f g h i (suc (suc (suc (suc (suc (suc (suc (suc zero)))))))) none = absurd (none refl)
but-eight P a b c d e f g h i (suc (suc (suc (suc (suc (suc (suc (suc (suc k))))))))) none = i k

-- the total is read by kind 2, the further pairs by kind 8
total-unread : (kind first second n t v : ℕ) (more : List ℕ) → (kind ≡ 2 → ⊥) → ranged (rule_of kind first second) n t more ≡ ranged (rule_of kind first second) n v more
unfolding ranged
total-unread zero first second n t v more h = refl
total-unread (suc zero) first second n t v more h = refl
total-unread (suc (suc zero)) first second n t v more h = absurd (h refl)
total-unread (suc (suc (suc kind))) first second n t v more h = refl

pub unread-total : (rule : Rule) (n t v : ℕ) (more : List ℕ) → (rule.kind ≡ 2 → ⊥) → ranged rule n t more ≡ ranged rule n v more
unread-total rule = total-unread rule.kind rule.first rule.second

pub unread-more : (rule : Rule) (n t : ℕ) (ws vs : List ℕ) → (rule.kind ≡ 8 → ⊥) → ranged rule n t ws ≡ ranged rule n t vs
unfolding ranged
unread-more rule n t ws vs =
    but-eight (λ kind. ranged (rule_of kind rule.first rule.second) n t ws ≡ ranged (rule_of kind rule.first rule.second) n t vs) refl refl refl refl refl refl refl refl (λ k. refl) rule.kind

other-reading : (rule : Rule) (ws vs : List ℕ) → Unread rule.kind → reading_of rule ws ≡ reading_of rule vs
unfolding reading_of
other-reading rule ws vs h =
    but-eight (λ kind. (kind ≡ 2 → ⊥) → reading_of (rule_of kind rule.first rule.second) ws ≡ reading_of (rule_of kind rule.first rule.second) vs)
    (λ n. refl) (λ n. refl) (λ n. absurd (n refl)) (λ n. refl) (λ n. refl) (λ n. refl) (λ n. refl) (λ n. refl) (λ k n. refl) rule.kind h.not_eight h.not_two

pub unread-range : (rule : Rule) (n : ℕ) (ws vs : List ℕ) → Unread rule.kind → in_range rule n ws ≡ in_range rule n vs
unread-range rule n ws vs h = unread-total rule n (total ws) (total vs) ws h.not_two ∙ unread-more rule n (total vs) ws vs h.not_eight

-- the verdict, its place, the count table and E
pub unread-fails : (rule : Rule) (n : ℕ) (ws vs : List ℕ) (w : ℕ) → Unread rule.kind → fails rule n ws w ≡ fails rule n vs w
unfolding fails
unread-fails rule n ws vs w h =
    but-eight (λ kind. (kind ≡ 2 → ⊥) → fails (rule_of kind rule.first rule.second) n ws w ≡ fails (rule_of kind rule.first rule.second) n vs w)
    (λ n. refl) (λ n. refl) (λ n. absurd (n refl)) (λ n. refl) (λ n. refl) (λ n. refl) (λ n. refl) (λ n. refl) (λ k n. refl) rule.kind h.not_eight h.not_two

pub unread-place : (rule : Rule) (n : ℕ) (ws vs : List ℕ) (w : ℕ) → (rule.kind ≡ 8 → ⊥) → place_of rule n ws w ≡ place_of rule n vs w
unfolding place_of
unread-place rule n ws vs w =
    but-eight (λ kind. place_of (rule_of kind rule.first rule.second) n ws w ≡ place_of (rule_of kind rule.first rule.second) n vs w) refl refl refl refl refl refl refl refl (λ k. refl) rule.kind

pub unread-counts : (rule : Rule) (n : ℕ) (ws vs : List ℕ) → Unread rule.kind → counts_of rule n ws ≡ counts_of rule n vs
unfolding counts_of
unread-counts rule n ws vs h = λ i. list_below (suc n) (λ j. count_if (λ w. not (unread-fails rule n ws vs w h i)) n j)

pub unread-exact : (u : ℕ) (rule : Rule) (survival ws vs : List ℕ) → Unread rule.kind → exact u rule survival ws ≡ exact u rule survival vs
unread-exact u rule survival ws vs h = λ i. exact_if (λ w. not (unread-fails rule (length survival) ws vs w h i)) u (number_of survival) (length survival)

-- the range by the total weight and the further pairs, each as it is lent
pub beside-range : (rule : Rule) (n : ℕ) (weights more : List ℕ) → in_range rule n (beside_of rule weights more) ≡ ranged rule n (total weights) more
beside-range rule n weights more = go (eqb rule.kind 8) refl
  where
    go : (b : Bool) → eqb rule.kind 8 ≡ b → in_range rule n (cond b more weights) ≡ ranged rule n (total weights) more
    go true e = unread-total rule n (total more) (total weights) more (λ two. let eight = eqb-true rule.kind 8 e in omega arith)
    go false e = unread-more rule n (total weights) weights more (eqb-false rule.kind 8 e)

pub accepted-unread : {rule : Rule} {n : ℕ} {ws vs : List ℕ} → Accepted rule n ws → Unread rule.kind → Accepted rule n vs
accepted-unread {rule} {n} {ws} {vs} y other = record {
  kind_low = y.kind_low;
  kind_high = y.kind_high;
  size_low = y.size_low;
  size_high = y.size_high;
  weights_length = λ two. absurd (other.not_two two);
  weights_total = λ two. absurd (other.not_two two);
  in-range = unread-range rule n vs ws other ∙ y.in-range;
}

pub unread-figure : (up : Bool) (u : ℕ) (rule : Rule) (survival ws vs : List ℕ) → Unread rule.kind → figure up u rule survival ws ≡ figure up u rule survival vs
unread-figure up u rule survival ws vs k = ap (λ R. figure_of R.row up u survival) (other-reading rule ws vs k)
