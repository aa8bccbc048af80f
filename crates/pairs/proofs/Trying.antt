-- Pairs tried one after the other: before the first, one more, a row of them begun and ended, and how many there are. One more is by whether its low is higher than that of
-- the pair that leads. Assumes nothing.
use mathlib.Core.Path.{◌≡◌, refl}
use Prim.Native.Nat.{ℕ, zero, suc, ◌+◌, ◌*◌, ◌-◌, ◌≤◌, ◌<◌}
use native.Mathlib.Decide.{ℕ_discrete, dec_le}
use native.Mathlib.Nat.{le_refl}
use native.Mathlib.Numerals.{add-one}
use native.Mathlib.Omega.{arith}
use borrow.Author.Tests.{eq-eqb, ne_eqb, le-leb, lt-leb}
use Rattle.rules.specs.Below.{sum_below}
use Rattle.places.specs.declared.Ends.{Ends}
use Rattle.pairs.specs.declared.Best.{Best}
use Rattle.pairs.specs.Pairs.{pairs_below}
use Rattle.pairs.specs.Tried.{Leads, Tried, best_of, with_pair}

-- ---- how many pairs there are

-- a row before this one, where there are two places, has a pair
first-row : (n i : ℕ) → n - 1 ≤ pairs_below n (suc i)
unfolding sum_below
first-row n zero = omega arith
first-row n (suc i) = omega (arith, first-row n i)

pub pairs-few : (n i : ℕ) → pairs_below n i ≤ i * n
unfolding sum_below
pairs-few n zero = omega arith
pairs-few n (suc i) = omega (arith, pairs-few n i)

-- n (n - 1) / 2 in all, so 2,016 of 64 places
rows : (n i : ℕ) → i ≤ n → 2 * pairs_below n i + i * i + i ≡ 2 * i * n
unfolding sum_below
rows n zero l = omega arith
rows n (suc i) l = omega (arith, rows n i (omega arith))

pub pairs-in-all : (n : ℕ) → 2 * pairs_below n n + n ≡ n * n
pairs-in-all n = omega (arith, rows n n (le_refl n))

pub most-pairs : pairs_below 64 64 ≡ 2016
most-pairs = omega (arith, pairs-in-all 64)

-- ---- trying them

module _ {low high : ℕ → ℕ → ℕ} {n : ℕ} where
  pub none_tried : {b : Best} → b.rated ≡ 0 → Tried low high n 0 0 b
  unfolding sum_below
  none_tried e = record { count = e; leads = λ some. absurd (omega arith) }

  module _ {i : ℕ} {b : Best} where
    pub row-begins : Tried low high n i 0 b → Tried low high n i (i + 1) b
    row-begins t = record {
      count = omega (arith, t.count);
      leads = λ some.
          let h = t.leads some in
          record { pair = h.pair; figures = h.figures; no_higher = h.no_higher; no_higher_here = λ l m k. absurd (omega arith); before = h.before; before_here = h.before_here };
    }

    pub row_ends : i < n → Tried low high n i n b → Tried low high n (i + 1) 0 b
    unfolding sum_below
    row_ends l t = record {
      count = rw (add-one i) (omega (arith, t.count));
      leads = λ some.
          let h = t.leads some in
          record {
            pair = h.pair;
            figures = h.figures;
            no_higher = λ k m below above few.
                elim (ℕ_discrete k i) [
                  | yes e ↦ rw e (h.no_higher_here m (omega arith) few)
                  | no other ↦ h.no_higher k m (omega arith) above few
                ];
            no_higher_here = λ m above none. absurd (omega arith);
            before = h.before;
            before_here = h.before_here;
          };
    }

  module _ {i j : ℕ} {b : Best} {ends : Ends} (l : i < j) (m : j < n) (t : Tried low high n i j b) (is-low : ends.low ≡ low i j) (is-high : ends.high ≡ high i j) where
    counted : b.rated + 1 ≡ pairs_below n i + (j + 1 - suc i)
    counted = omega (arith, t.count)

    -- the best pair stays, since the new one's low is not higher
    staying : 1 ≤ b.rated → low i j ≤ b.low → Leads low high n i (j + 1) (best_of b.first b.second b.low b.high (b.rated + 1))
    staying some not-above =
        let h = t.leads some in
        record {
          pair = h.pair;
          figures = h.figures;
          no_higher = h.no_higher;
          no_higher_here = λ k above below.
              elim (ℕ_discrete k j) [
                | yes e ↦ rw e not-above
                | no other ↦ h.no_higher_here k above (omega arith)
              ];
          before = h.before;
          before_here = h.before_here;
        }

    -- the new one leads, being higher than all before it
    leading : ((k m : ℕ) → k < i → k < m → m < n → low k m < low i j) → ((k : ℕ) → i < k → k < j → low i k < low i j)
        → Leads low high n i (j + 1) (best_of i j ends.low ends.high (b.rated + 1))
    leading higher higher-here = record {
      pair = (l, m);
      figures = (is-low, is-high);
      no_higher = λ k m below above few. omega (arith, higher k m below above few, is-low);
      no_higher_here = λ k above below.
          elim (ℕ_discrete k j) [
            | yes e ↦ rw e (omega (arith, is-low))
            | no other ↦ omega (arith, higher-here k above (omega arith), is-low)
          ];
      before = λ k m below above few. omega (arith, higher k m below above few, is-low);
      before_here = λ k above below. omega (arith, higher-here k above below, is-low);
    }

    -- the first pair of all: none is before it
    first-pair : b.rated ≡ 0 → Leads low high n i (j + 1) (best_of i j ends.low ends.high (b.rated + 1))
    first-pair none = leading (λ k m below. absurd (no_row i refl below)) (λ k above below. absurd (omega (arith, t.count)))
      where
        no_row : {k : ℕ} (r : ℕ) → r ≡ i → k < r → ⊥
        no_row zero e below = omega arith
        no_row (suc r) e below = omega (arith, first-row n r, rw (← e) at t.count)

    higher-pair : 1 ≤ b.rated → b.low < low i j → Leads low high n i (j + 1) (best_of i j ends.low ends.high (b.rated + 1))
    higher-pair some above =
        let h = t.leads some in
        leading (λ k m below before few. omega (arith, h.no_higher k m below before few)) (λ k before below. omega (arith, h.no_higher_here k before below))

    pub one-pair : Tried low high n i (j + 1) (with_pair b i j ends)
    one-pair = go (ℕ_discrete b.rated 0) (dec_le ends.low b.low)
      where
        go : Dec (b.rated ≡ 0) → Dec (ends.low ≤ b.low) → Tried low high n i (j + 1) (with_pair b i j ends)
        go (yes none) d = rw (eq-eqb b.rated 0 none) (record { count = counted; leads = λ some. first-pair none })
        go (no rated) (yes h) =
            rw (ne_eqb b.rated 0 rated, le-leb ends.low b.low h) (record { count = counted; leads = λ some. staying (omega arith) (omega arith) })
        go (no rated) (no h) =
            rw (ne_eqb b.rated 0 rated, lt-leb ends.low b.low (omega arith)) (record { count = counted; leads = λ some. higher-pair (omega arith) (omega arith) })
