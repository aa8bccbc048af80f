-- Rows 1 to 3: the program's sum reads as document 01's memory. A sum below k stands for the living memory of that number, one from k on for the
-- dead one; under row 3 every sum is a living memory. Each step keeps it so. Assumes nothing.
use mathlib.Core.Path.{◌≡◌, refl}
use mathlib.Core.Bool.{Bool, true, false, cond}
use Prim.Native.Nat.{ℕ, suc, ◌+◌, ◌≤◌, ◌<◌}
use native.Mathlib.Omega.{arith}
use native.Mathlib.Numerals.{add-one}
use lib.Dec.{ltb}
use borrow.Author.Tests.{ltb-true, ltb-false, lt-ltb, le-ltb}
use Rattle.rules.specs.Memory.{Memory, live, dead, moved, ended, machine_of, row1, row3}
use Rattle.rules.proofs.Simulation.{Alike, Same, alike_same}
use Rattle.rules.proofs.Dead.{Dead}
use Rattle.memory.specs.declared.sum.Sum.{Sum}
use Rattle.memory.specs.Sum.{sum, below_limit, sum_outside, summing}

-- rows 1 and 2
data Adds (k : ℕ) : Sum → Memory ℕ → Type 0 where
  still : {c : ℕ} → c < k → Adds k (sum c) (live c)
  gone : {c : ℕ} → k ≤ c → Adds k (sum c) dead

more : (k c : ℕ) (t : Bool) → ltb c k ≡ t → Adds k (sum c) (cond t (live c) dead)
more k c true e = still (ltb-true _ _ e)
more k c false e = gone (ltb-false _ _ e)

module _ (k : ℕ) (weight : ℕ → ℕ) where
  adds : Alike (summing weight (below_limit k)) (machine_of (row1 k weight)) (λ i. Adds k)
  unfolding moved ended
  adds = record { works = λ i m m'. on-working; fails = λ i m m'. on-failed (suc i); last = λ m m'. at-end }
    where
      on-working : {m : Sum} {m' : Memory ℕ} → Adds k m m' → Adds k m (moved live m')
      on-working (still h) = still h
      on-working (gone h) = gone h

      on-failed : (i : ℕ) {m : Sum} {m' : Memory ℕ} → Adds k m m' → Adds k ((summing weight (below_limit k)).failed i m) (moved ((row1 k weight).failing i) m')
      on-failed i (still {c = c} h) = more k (c + weight i) (ltb (c + weight i) k) refl
      on-failed i (gone {c = c} h) = gone {c = c + weight i} (omega arith)

      at-end : {m : Sum} {m' : Memory ℕ} → Adds k m m' → below_limit k m ≡ ended (λ c. true) m'
      at-end (still h) = lt-ltb _ _ h
      at-end (gone h) = le-ltb _ _ h

  pub sum-row1 : (n : ℕ) → 0 < k → Same (summing weight (below_limit k)) (sum 0) (machine_of (row1 k weight)) (live 0) n
  sum-row1 n some = alike_same adds n _ _ (still some)

  -- dead from k on
  pub sum-dead : Dead (summing weight (below_limit k)) (λ m. k ≤ m.sum)
  sum-dead = record { works = λ i d. d; fails = λ i d. omega arith; last = λ d. le-ltb _ _ d }

-- row 3
data Tally : Sum → Memory ℕ → Type 0 where
  counted : {c : ℕ} → Tally (sum c) (live c)

module _ (l h : ℕ) where
  tally : Alike (summing (λ i. 1) (sum_outside l h)) (machine_of (row3 l h)) (λ i. Tally)
  unfolding moved ended
  tally = record { works = λ i m m'. on-working; fails = λ i m m'. on-failed; last = λ m m'. at-end }
    where
      on-working : {m : Sum} {m' : Memory ℕ} → Tally m m' → Tally m (moved live m')
      on-working counted = counted

      on-failed : {m : Sum} {m' : Memory ℕ} → Tally m m' → Tally (sum (m.sum + 1)) (moved (λ c. live (suc c)) m')
      on-failed (counted {c = c}) = rw (add-one c) counted

      at-end : {m : Sum} {m' : Memory ℕ} → Tally m m' → sum_outside l h m ≡ ended (row3 l h).end m'
      at-end counted = refl

  pub sum-row3 : (n : ℕ) → Same (summing (λ i. 1) (sum_outside l h)) (sum 0) (machine_of (row3 l h)) (live 0) n
  sum-row3 n = alike_same tally n _ _ counted
