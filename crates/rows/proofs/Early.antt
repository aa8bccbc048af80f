-- What kinds 1 to 3 have in common, each by its own row of document 01's table: a limit that fits, sums from the limit on that are dead or never
-- come, and a machine whose value is the figure. And weights: none is above the gap, and a load grows by one of them a component. Assumes nothing.
use Prim.Native.Nat.{ℕ, zero, suc, ◌+◌, ◌-◌, ◌*◌, ◌≤◌, ◌<◌}
use mathlib.Core.Path.{◌≡◌, refl, ap}
use mathlib.Core.Bool.{Bool}
use mathlib.Core.List.{List, [], ◌∷◌}
use native.Mathlib.Omega.{arith}
use lib.Dec.{eqb}
use lib.ListN.{length}
use borrow.Author.Tests.{eqb-true}
use Rattle.rules.specs.declared.Rule.{Rule}
use Rattle.rules.specs.State.{number_of, rule_of}
use Rattle.rules.specs.Below.{sum_below, total}
use Rattle.rules.specs.Memory.{reading_of}
use Rattle.rules.specs.Figure.{figure}
use Rattle.rules.specs.Refusal.{last_kind, heaviest}
use Rattle.rules.specs.Accepted.{Accepted}
use Rattle.rules.proofs.Accepted.{range1, range2}
use Rattle.rules.proofs.EachKind.{each-kind}
use Rattle.rules.proofs.Sums.{sum-add}
use Rattle.rules.proofs.Tests.{by-test, by_both}
use Rattle.memory.proofs.Sums.{sum-row1, sum-row3, sum-dead}
use Rattle.memory.specs.Sum.{sum}
use Rattle.places.specs.Map.{half}
use Rattle.places.proofs.Values.{valued-dead}
use Rattle.rows.specs.Kinds.{Sums, carry_of, load_of, limit_of, gap_of, end_of}
use Rattle.rows.specs.Level.{Asked, sums_value}

-- weights
number-le : (ws : List ℕ) (i : ℕ) → number_of ws i ≤ total ws
unfolding number_of total
number-le ws zero = omega arith
number-le [] (suc i) = omega arith
number-le (x ∷ xs) (suc zero) = omega arith
number-le (x ∷ xs) (suc (suc i)) = omega (arith, number-le xs (suc i))

gap-le : (rule : Rule) → gap_of rule ≤ heaviest
gap-le rule = by-test (λ x. x ≤ heaviest) (eqb rule.kind 2) _ _ (λ e. omega arith) (λ e. omega arith)

pub carry-le : {rule : Rule} {n : ℕ} {weights : List ℕ} → Accepted rule n weights → (i : ℕ) → carry_of rule weights i ≤ gap_of rule
unfolding carry_of
carry-le {rule} {n} {weights} ok i =
    by_both (λ x y. x ≤ y) (eqb rule.kind 2) _ _ _ _ (λ e. omega (arith, number-le weights i, ok.weights_total (eqb-true _ _ e))) (λ e. omega arith)

-- loads
sum_bound : (c n : ℕ) (f : ℕ → ℕ) → ((k : ℕ) → f k ≤ c) → sum_below n f ≤ c * n
unfolding sum_below
sum_bound c zero f h = omega arith
sum_bound c (suc n) f h = omega (arith, sum_bound c n f h, h n)

pub load-le : {rule : Rule} {n : ℕ} {weights : List ℕ} → Accepted rule n weights → (i : ℕ) → load_of rule weights i ≤ heaviest * i
load-le {rule} ok i = sum_bound heaviest i _ (λ k. omega (arith, carry-le ok (suc k), gap-le rule))

pub load-more : (rule : Rule) (weights : List ℕ) (i : ℕ) → load_of rule weights (suc i) ≡ load_of rule weights i + carry_of rule weights (suc i)
unfolding sum_below
load-more rule weights i = refl

pub load-upto : (rule : Rule) (weights : List ℕ) (i n : ℕ) → i < n → load_of rule weights i + carry_of rule weights (suc i) ≤ load_of rule weights n
load-upto rule weights i n l =
    let e : n ≡ suc i + (n - suc i) = omega arith in
    omega (arith, load-more rule weights i, sum-add (suc i) (n - suc i) (λ k. carry_of rule weights (suc k)), ap (λ x. load_of rule weights x) e)

-- an accepted rule of kind 1, 2 or 3
pub record Early (u : ℕ) (rule : Rule) (survival weights : List ℕ) : Type 0 where
  pub some : 0 < limit_of rule
  pub most : limit_of rule + gap_of rule ≤ half
  pub gone : (up : Bool) (i k : ℕ) → limit_of rule ≤ k → k ≤ load_of rule weights (length survival) → sums_value u rule survival weights i up k ≡ 0
  pub whole : (up : Bool) → sums_value u rule survival weights (length survival) up 0 ≡ figure up u rule survival weights

module _ {u : ℕ} (some : 0 < u) (survival weights : List ℕ) (first second : ℕ) where
  abbrev n : ℕ
  n = length survival

  abbrev ByKind : ℕ → Type 0
  ByKind kind = Sums (rule_of kind first second) → Accepted (rule_of kind first second) n weights → Early u (rule_of kind first second) survival weights

  late : {kind : ℕ} → 3 < kind → ByKind kind
  late l early ok = absurd (omega arith)

  by_kind : (kind : ℕ) → 1 ≤ kind → kind ≤ last_kind → ByKind kind
  unfolding carry_of end_of reading_of
  by_kind =
      each-kind ByKind
      (λ early ok. let r = range1 ok refl in record {
        some = r.low;
        most = omega (arith, r.high, ok.size_high);
        gone = λ up i k l h. valued-dead some _ survival (sum-dead first (λ i. 1)) i (sum k) l up;
        whole = λ up. (sum-row1 first (λ i. 1) n r.low).values up u (number_of survival);
      })
      (λ early ok. let r = range2 ok refl in record {
        some = r.low;
        most = omega (arith, r.high, ok.weights_total refl);
        gone = λ up i k l h. valued-dead some _ survival (sum-dead first (number_of weights)) i (sum k) l up;
        whole = λ up. (sum-row1 first (number_of weights) n r.low).values up u (number_of survival);
      })
      (λ early ok. record {
        some = omega arith;
        most = omega arith;
        gone = λ up i k l h. absurd (omega (arith, ok.size_high, sum_bound 1 n (λ i. 1) (λ i. omega arith)));
        whole = λ up. (sum-row3 first second n).values up u (number_of survival);
      })
      (late (omega arith))
      (late (omega arith))
      (late (omega arith))
      (late (omega arith))
      (late (omega arith))

pub early-is : {u : ℕ} {rule : Rule} {survival weights t : List ℕ} → Asked u rule survival weights t → Early u rule survival weights
early-is {rule = rule} {survival} {weights} y =
    let ok = y.accepted in
    by_kind y.list.whole survival weights rule.first rule.second rule.kind ok.kind_low ok.kind_high y.sums ok
