-- What is owed of the definitions, put together. Reading is the verdict: for every rule in range and every word below 2^n a reading through the
-- kind's memory ends working exactly if the verdict says that the system works. Hence the third condition, for a list and for a stretch, and the
-- counts as a reading gives them. Assumes nothing.
use mathlib.Core.Path.{◌≡◌, sym, ◌∙◌}
use mathlib.Core.Bool.{Bool, true, false, not, true≢false}
use mathlib.Core.List.{List}
use Prim.Native.Nat.{ℕ, zero, suc, ◌^◌, ◌≤◌, ◌<◌}
use native.Mathlib.Omega.{arith}
use lib.Dec.{eqb, ltb}
use lib.ListN.{length, get_or, get_or-eq_default}
use native.Mathlib.Decide.{dec_lt}
use borrow.Author.Tests.{lt-ltb, le-ltb}
use Rattle.rules.specs.declared.Rule.{Rule}
use Rattle.rules.specs.Below.{some}
use Rattle.rules.specs.State.{S, rule_of, number_of}
use Rattle.rules.specs.Verdict.{fails, works}
use Rattle.rules.specs.Count.{count_if, count_of}
use Rattle.rules.specs.Memory.{run, reading_of, machine}
use Rattle.rules.specs.Figure.{figure, low, high, exact, Third}
use Rattle.rules.specs.Refusal.{last_kind, most, range_pairs, ranged, in_range, some_above}
use Rattle.rules.proofs.EachKind.{each-kind, within-true, range-kind}
use Rattle.rules.proofs.Tests.{both}
use Rattle.rules.proofs.Windows.{some-none, not-lt}
use Rattle.rules.proofs.Split.{exact_same, count_same}
use Rattle.rules.proofs.Enclosure.{value-le, enclosed}
use Rattle.rules.proofs.Adding.{kind1, kind2, kind3}
use Rattle.rules.proofs.InARow.{kind4, kind5}
use Rattle.rules.proofs.Apart.{kind6, kind7}
use Rattle.rules.proofs.Lacking.{kind8}
use Rattle.rules.specs.Pairs.{pairs_of, bad_more}

module _ (n : ℕ) (weights : List ℕ) (w : ℕ) (small : w < 2 ^ n) (first second : ℕ) where
  abbrev Right : ℕ → Type 0
  Right kind =
      in_range (rule_of kind first second) n weights ≡ true
      → run (machine (rule_of kind first second) weights) n (machine (rule_of kind first second) weights).start w
      ≡ works (rule_of kind first second) n weights w

  by_kind : (kind : ℕ) → 1 ≤ kind → kind ≤ last_kind → Right kind
  unfolding ranged range_pairs reading_of fails
  by_kind =
      each-kind Right
      (λ e. kind1 n first w (within-true 1 first n (both _ _ e).0).0 small)
      (λ e. kind2 n first weights w (within-true 1 first _ (both _ _ e).0).0)
      (λ e. kind3 n first second w small)
      (λ e. let h = within-true 1 first n (both _ _ e).0 in kind4 n first w h.0 h.1)
      (λ e. let h = within-true 1 first n (both _ _ e).0 in kind5 n first w h.0 h.1)
      (λ e. kind6 n second w (within-true 2 second most (both (eqb first 2) _ e).1).0)
      (λ e. let h = within-true 2 second n (both (eqb first 2) _ e).1 in kind7 n second w h.0 h.1)
      (λ e. kind8 n (pairs_of first second weights) w (both (not (bad_more weights)) _ e).1 small)

pub reading-is-verdict : (rule : Rule) (n : ℕ) (weights : List ℕ) (w : ℕ) → in_range rule n weights ≡ true → w < 2 ^ n
    → run (machine rule weights) n (machine rule weights).start w ≡ works rule n weights w
reading-is-verdict rule n weights w e small =
    let k = range-kind rule n _ _ e in
    by_kind n weights w small rule.first rule.second rule.kind k.0 k.1 e

-- the counts, as a reading gives them
pub count-by-reading : (rule : Rule) (n : ℕ) (weights : List ℕ) (j : ℕ) → in_range rule n weights ≡ true
    → count_of rule n weights j ≡ count_if (run (machine rule weights) n (machine rule weights).start) n j
count-by-reading rule n weights j e = count_same _ _ n j (λ w l. sym (reading-is-verdict rule n weights w e l))

-- no number of a list is above a limit: no P read above the unit, no fan on a board that there is not
pub none_above : (limit : ℕ) (xs : List ℕ) → some_above limit xs ≡ false → (i : ℕ) → get_or xs i 0 ≤ limit
unfolding some_above
none_above limit xs e i = go (dec_lt i (length xs))
  where
    go : Dec (i < length xs) → get_or xs i 0 ≤ limit
    go (yes l) = not-lt _ _ (λ g. (some-none (λ i. ltb limit (get_or xs i 0)) (length xs)).0 e i l (lt-ltb _ _ g))
    go (no l) = rw (get_or-eq_default xs 0 (not-lt _ _ l)) (omega arith)

pub above-none : (limit : ℕ) (xs : List ℕ) → ((i : ℕ) → get_or xs i 0 ≤ limit) → some_above limit xs ≡ false
unfolding some_above
above-none limit xs s = (some-none (λ i. ltb limit (get_or xs i 0)) (length xs)).1 (λ i l e. true≢false (sym e ∙ le-ltb limit (get_or xs i 0) (s i)))

pub below-unit : {u : ℕ} (survival : List ℕ) → ((i : ℕ) → get_or survival i 0 ≤ u) → (i : ℕ) → number_of survival i ≤ u
unfolding number_of
below-unit survival units zero = omega arith
below-unit survival units (suc i) = units i

-- a figure is a value of a memory, and stays within the unit
pub figure-within : (up : Bool) {u : ℕ} → 0 < u → (rule : Rule) (survival weights : List ℕ) → ((i : ℕ) → get_or survival i 0 ≤ u)
    → figure up u rule survival weights ≤ u
figure-within up {u} whole rule survival weights units =
    value-le (machine rule weights) u (number_of survival) whole up (length survival) (λ i l. below-unit survival units i) _

-- the third condition, of document 01's low, high and E. Of a stretch it is this, said of the stretch's own lists.
pub third : {u : ℕ} → 0 < u → (rule : Rule) (survival weights : List ℕ) → 1 ≤ length survival → ((i : ℕ) → get_or survival i 0 ≤ u)
    → in_range rule (length survival) weights ≡ true → Third u (length survival) (low u rule survival weights) (high u rule survival weights) (exact u rule survival weights)
third {u} whole rule survival weights some units range =
    let n = length survival in
    let same = exact_same _ _ u (number_of survival) n (λ w l. reading-is-verdict rule n weights w range l) in
    rw (← same) (enclosed (machine rule weights) u (number_of survival) whole n some (λ i l. below-unit survival units i) _)
