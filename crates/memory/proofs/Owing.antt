-- Rows 6 and 7: what the program's memory owes reads as document 01's pair (x, g), and as the line's number g past as many clean ones as can count;
-- one that owes r is dead. Assumes nothing.
use mathlib.Core.Path.{◌≡◌}
use mathlib.Core.Bool.{true}
use Prim.Native.Nat.{ℕ, zero, suc, ◌-◌, ◌<◌}
use native.Mathlib.Omega.{arith}
use borrow.Author.Tests.{le-leb, lt-leb, ne_eqb}
use Rattle.rules.specs.Memory.{Memory, live, dead, moved, ended, machine_of, row6, row7, Ring, pair, working7, failing7, end7}
use Rattle.rules.proofs.Apart.{line-gap}
use Rattle.rules.proofs.Simulation.{Alike, Same, alike_same, same-third}
use Rattle.rules.proofs.Dead.{Dead}
use Rattle.memory.proofs.Living.{living-works, living-fails, living-ends, living-dead}
use Rattle.memory.specs.declared.owed.Owed.{Owed}
use Rattle.memory.specs.Owed.{owed, owed_works, owed_worked, owed_failed, owing, owed_dead, owed_moves}

-- the moves of a living memory
module _ (r i : ℕ) (m : Owed) (alive : m.owed < r) where
  pub owed-works : (owing r).worked i m ≡ owed_worked m
  unfolding owing
  owed-works = living-works (owed_dead r) (owed_moves r) m (lt-leb r _ alive) i

  pub owed-fails : (owing r).failed i m ≡ owed_failed r m
  unfolding owing
  owed-fails = living-fails (owed_dead r) (owed_moves r) m (lt-leb r _ alive) i

  pub owed-ends : (owing r).ends m ≡ owed_works m
  unfolding owing
  owed-ends = living-ends (owed_dead r) (owed_moves r) m (lt-leb r _ alive)

-- and of a dead one
pub owed-dead : (r : ℕ) → Dead (owing r) (λ m. owed_dead r m ≡ true)
unfolding owing
owed-dead r = living-dead (owed_dead r) (owed_moves r)

data Owes (r : ℕ) : Owed → Memory Ring → Type 0 where
  still : {x g : ℕ} → g < r → Owes r (owed x g) (live (pair x g))
  gone : {m : Owed} → owed_dead r m ≡ true → Owes r m dead

module _ (r : ℕ) (pos : 0 < r) where
  -- a failed component after one that is owed, and after none
  fails : (x g : ℕ) → g < r → Owes r (owed_failed r (owed x g)) (failing7 r (pair x g))
  unfolding failing7
  fails x zero h = still {x = x} {g = r - 1} (omega arith)
  fails x (suc g) h = rw (ne_eqb (suc g) 0 (λ e. omega arith)) (gone {m = owed x r} (le-leb r r (omega arith)))

  owes : Alike (owing r) (machine_of (row7 r)) (λ i. Owes r)
  unfolding moved ended working7 end7
  owes = record { works = λ i m m'. on-working (suc i); fails = λ i m m'. on-failed (suc i); last = λ m m'. at-end }
    where
      on-working : (i : ℕ) {m : Owed} {m' : Memory Ring} → Owes r m m' → Owes r ((owing r).worked i m) (moved (working7 r) m')
      on-working i (still {x = x} {g = g} h) = rw (owed-works r i (owed x g) h) (still {x = x} {g = g - 1} (omega arith))
      on-working i (gone h) = gone ((owed-dead r).works i h)

      on-failed : (i : ℕ) {m : Owed} {m' : Memory Ring} → Owes r m m' → Owes r ((owing r).failed i m) (moved (failing7 r) m')
      on-failed i (still {x = x} {g = g} h) = rw (owed-fails r i (owed x g) h) (fails x g h)
      on-failed i (gone h) = gone ((owed-dead r).fails i h)

      at-end : {m : Owed} {m' : Memory Ring} → Owes r m m' → (owing r).ends m ≡ ended end7 m'
      at-end (still {x = x} {g = g} h) = owed-ends r 0 (owed x g) h
      at-end (gone h) = (owed-dead r).last h

  -- the pairs of the ring, over i components, and the line over n
  pub owed-row7 : (i x g : ℕ) → g < r → Same (owing r) (owed x g) (machine_of (row7 r)) (live (pair x g)) i
  owed-row7 i x g h = alike_same owes i _ _ (still h)

  pub owed-row6 : (n : ℕ) → Same (owing r) (owed (r - 1) 0) (machine_of (row6 r)) (live 0) n
  owed-row6 n = same-third (owed-row7 n (r - 1) 0 pos) (line-gap n r pos)
