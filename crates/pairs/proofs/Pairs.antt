-- What the best pair is: no pair's low is higher, and the pair named has it. The pair that leads when all are tried is the one that the definitions name, and one leads
-- wherever there are two places. Assumes nothing.
use mathlib.Core.Path.{◌≡◌, refl, sym, subst, ◌∙◌}
use mathlib.Core.Bool.{Bool, true, true≢false}
use Prim.Native.Nat.{ℕ, zero, suc, ◌+◌, ◌*◌, ◌-◌, ◌≤◌, ◌<◌}
use native.Mathlib.Nat.{le_trans, le_antisymm}
use native.Mathlib.Numerals.{add-one}
use native.Mathlib.Omega.{arith}
use lib.Dec.{ltb}
use borrow.Author.Tests.{lt-ltb, ltb-true, eq-eqb, eqb-true}
use Rattle.rules.specs.Below.{some}
use Rattle.rules.proofs.Tests.{both}
use Rattle.rules.proofs.Windows.{some-none, some-found}
use Rattle.rules.proofs.Lowest.{found}
use Rattle.spares.proofs.Highest.{high-most, highest-within}
use Rattle.places.specs.declared.Ends.{Ends}
use Rattle.pairs.specs.declared.Best.{Best}
use Rattle.pairs.specs.Pairs.{highest_from, highest_pair, has_highest, first_place, second_place, pairs_below}
use Rattle.pairs.specs.Tried.{Leads, Tried, best_of, with_pair}
use Rattle.pairs.proofs.Trying.{pairs-in-all, none_tried, row-begins, row_ends, one-pair}

-- "the highest low over all pairs"
pub none_above : (low : ℕ → ℕ → ℕ) (n k l : ℕ) → k < l → l < n → low k l ≤ highest_pair low n
unfolding highest_pair
none_above low n k l h m = le_trans (high-most (low k) (ltb k) n l m (lt-ltb k l h)) (high-most (highest_from low n) (λ i. true) n k (omega arith) refl)

-- the pair that leads when all are tried is the one named
module _ {low high : ℕ → ℕ → ℕ} {n : ℕ} {b : Best} (h : Leads low high n n 0 b) where
  few : b.first < n
  few = omega (arith, h.pair)

  pub leads-highest : b.low ≡ highest_pair low n
  unfolding highest_pair
  leads-highest =
      le_antisymm (rw h.figures.0 (none_above low n b.first b.second h.pair.0 h.pair.1))
      (highest-within b.low (highest_from low n) (λ i. true) n
      (λ i l e. highest-within b.low (low i) (ltb i) n (λ j m f. h.no_higher i j l (ltb-true i j f) m)))

  abbrev has : ℕ → ℕ → Bool
  has = has_highest low n

  named : has b.first b.second ≡ true
  named = rw (lt-ltb b.first b.second h.pair.0, eq-eqb (low b.first b.second) (highest_pair low n) (sym h.figures.0 ∙ leads-highest))

  lower : (i j : ℕ) → low i j < b.low → has i j ≡ true → ⊥
  lower i j below e = omega (arith, leads-highest, eqb-true (low i j) (highest_pair low n) (both (ltb i j) _ e).1)

  pub leads-first : first_place low n ≡ b.first
  unfolding first_place
  leads-first =
      found (λ i. some (has i) n) n b.first few
      ((some-none (λ i. some (has i) n) b.first).1 (λ i l e. true≢false (sym e ∙ (some-none (has i) n).1 (λ j m f.
      lower i j (h.before i j l (ltb-true i j (both (ltb i j) _ f).0) m) f))))
      (some-found (has b.first) n b.second h.pair.1 named)

  pub leads-second : second_place low n ≡ b.second
  unfolding second_place
  leads-second =
      rw leads-first
      (found (has b.first) n b.second h.pair.1
      ((some-none (has b.first) b.second).1 (λ j l e. lower b.first j (h.before_here j (ltb-true b.first j (both (ltb b.first j) _ e).0) l) e))
      named)

-- ---- one leads wherever there are two places

pub all-tried : {low high : ℕ → ℕ → ℕ} {n : ℕ} {b : Best} → 2 ≤ n → Tried low high n n 0 b → Leads low high n n 0 b
all-tried {n = n} two t = t.leads (go n (pairs_below n n) two (pairs-in-all n) t.count)
  where
    go : (n pairs : ℕ) {rated : ℕ} → 2 ≤ n → 2 * pairs + n ≡ n * n → rated ≡ pairs + (0 - suc n) → 1 ≤ rated
    go (suc (suc n)) pairs l e f = omega arith
    go (suc zero) pairs l e f = absurd (omega arith)
    go zero pairs l e f = absurd (omega arith)

module _ (low : ℕ → ℕ → ℕ) (n : ℕ) where
  record Best-of (i j : ℕ) : Type 0 where
    pub best : Best
    pub tried : Tried low low n i j best

  row : {i : ℕ} → i < n → Best-of i 0 → (d : ℕ) → i + suc d ≤ n → Best-of i (i + suc d)
  row l r zero h = record { best = r.best; tried = row-begins r.tried }
  row {i} l r (suc d) h =
      let before = row l r d (omega arith) in
      let j = i + suc d in
      let next : j + 1 ≡ i + suc (suc d) = omega arith in
      let ends : Ends = record { low = low i j; high = low i j } in
      record { best = with_pair before.best i j ends; tried = rw (← next) (one-pair (omega arith) (omega arith) before.tried refl refl) }

  next : {i : ℕ} → i < n → Best-of i n → Best-of (suc i) 0
  next {i} l r = record { best = r.best; tried = rw (← (add-one i)) (row_ends l r.tried) }

  below : (i : ℕ) → i ≤ n → Best-of i 0
  below zero l = record { best = best_of 0 0 0 0 0; tried = none_tried refl }
  below (suc i) l =
      let all : i + suc (n - suc i) ≡ n = omega arith in
      next (omega arith) (subst (Best-of i) all (row (omega arith) (below i (omega arith)) (n - suc i) (omega arith)))

  -- "the pair named is one that has it"
  pub record Named : Type 0 where
    pub pair : (first_place low n < second_place low n) × (second_place low n < n)
    pub has-it : low (first_place low n) (second_place low n) ≡ highest_pair low n

  pub pair-named : 2 ≤ n → Named
  pair-named two =
      let h = all-tried two (below n (omega arith)).tried in
      record { pair = rw (leads-first h, leads-second h) h.pair; has-it = rw (leads-first h, leads-second h) (sym h.figures.0 ∙ leads-highest h) }
