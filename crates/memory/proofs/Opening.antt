-- The open memory of a ring, component by component: a working one closes lead t, a failed one clean x; on the other side it stays open. With all n
-- components left it is the ring's start; with k of them read a lead is dead. Assumes nothing.
use mathlib.Core.Path.{◌≡◌, refl}
use Prim.Native.Nat.{ℕ, suc, ◌+◌, ◌-◌, ◌≤◌, ◌<◌, min}
use native.Mathlib.Omega.{arith}
use borrow.Author.Tests.{lt-ltb, le-ltb}
use Rattle.rules.specs.Memory.{live, dead, moved, machine_of, row5, row7, lead, pair, working5, failing5, working7, failing7}
use Rattle.memory.specs.Open.{lead_open, clean_open}

module _ (k n : ℕ) where
  pub lead-first : k ≤ n → lead_open k n (n - k) ≡ dead
  unfolding lead_open
  lead-first fits = let e : n - (n - k) ≡ k = omega arith in rw (e, le-ltb k k (omega arith))

  pub lead-start : 0 < k → lead_open k n n ≡ live (lead 0)
  unfolding lead_open
  lead-start some = let e : n - n ≡ 0 = omega arith in rw (e, lt-ltb 0 k some)

  module _ (i : ℕ) (left : i < n) (near : n ≤ i + k) where
    lead-live : lead_open k n (suc i) ≡ live (lead (n - suc i))
    unfolding lead_open
    lead-live = rw (lt-ltb (n - suc i) k (omega arith))

    pub lead-works : (machine_of (row5 k)).worked (suc i) (lead_open k n (suc i)) ≡ live (pair (n - suc i) 0)
    unfolding moved working5
    lead-works = rw lead-live

    pub lead-fails : (machine_of (row5 k)).failed (suc i) (lead_open k n (suc i)) ≡ lead_open k n i
    unfolding moved failing5 lead_open
    lead-fails = let e : suc (n - suc i) ≡ n - i = omega arith in rw (lt-ltb (n - suc i) k (omega arith), e)

module _ (r n : ℕ) where
  pub clean-start : clean_open r n n ≡ live (lead 0)
  unfolding clean_open
  clean-start = let e : min (n - n) (r - 1) ≡ 0 = omega arith in rw e

  module _ (i : ℕ) (left : i < n) where
    pub clean-works : (machine_of (row7 r)).worked (suc i) (clean_open r n (suc i)) ≡ clean_open r n i
    unfolding moved working7 clean_open
    clean-works = let e : min (suc (min (n - suc i) (r - 1))) (r - 1) ≡ min (n - i) (r - 1) = omega arith in rw e

    pub clean-fails : (machine_of (row7 r)).failed (suc i) (clean_open r n (suc i)) ≡ live (pair (min (n - suc i) (r - 1)) (r - 1))
    unfolding moved failing7 clean_open
    clean-fails = refl
