-- Rows 4 and 5: the program's run reads as document 01's pair (t, s), and as the line's number s past a lead of none; a run of k is dead. What a run
-- becomes, and the value of a memory with no run where a run comes to k. Assumes nothing.
use mathlib.Core.Path.{◌≡◌, refl}
use mathlib.Core.Bool.{Bool, true, false, cond}
use Prim.Native.Nat.{ℕ, suc, ◌<◌}
use native.Mathlib.Numerals.{add-one}
use lib.Dec.{ltb}
use borrow.Author.Tests.{ltb-true, ltb-false, le-leb, lt-leb}
use Rattle.rules.specs.Memory.{Memory, live, dead, moved, ended, machine_of, row4, row5, Ring, pair, working5, failing5, end5}
use Rattle.rules.proofs.InARow.{line_row}
use Rattle.rules.proofs.Simulation.{Alike, Same, alike_same, same-third}
use Rattle.rules.proofs.Dead.{Dead}
use Rattle.memory.proofs.Living.{living-works, living-fails, living-ends, living-dead}
use Rattle.memory.specs.declared.run.Run.{Run}
use Rattle.memory.specs.Run.{run, run_works, run_failed, running, run_dead, run_moves}

-- the moves of a living memory
module _ (k i : ℕ) (m : Run) (alive : m.run < k) where
  pub run-works : (running k).worked i m ≡ run m.lead 0
  unfolding running
  run-works = living-works (run_dead k) (run_moves k) m (lt-leb k _ alive) i

  pub run-fails : (running k).failed i m ≡ run_failed m
  unfolding running
  run-fails = living-fails (run_dead k) (run_moves k) m (lt-leb k _ alive) i

  pub run_ends : (running k).ends m ≡ run_works k m
  unfolding running
  run_ends = living-ends (run_dead k) (run_moves k) m (lt-leb k _ alive)

-- and of a dead one
pub run-dead : (k : ℕ) → Dead (running k) (λ m. run_dead k m ≡ true)
unfolding running
run-dead k = living-dead (run_dead k) (run_moves k)

data Runs (k : ℕ) : Run → Memory Ring → Type 0 where
  still : {t s : ℕ} → s < k → Runs k (run t s) (live (pair t s))
  gone : {m : Run} → run_dead k m ≡ true → Runs k m dead

longer : (k t s : ℕ) (b : Bool) → ltb s k ≡ b → Runs k (run t s) (cond b (live (pair t s)) dead)
longer k t s true e = still (ltb-true _ _ e)
longer k t s false e = gone {m = run t s} (le-leb k s (ltb-false s k e))

module _ (k : ℕ) (pos : 0 < k) where
  runs : Alike (running k) (machine_of (row5 k)) (λ i. Runs k)
  unfolding moved ended working5 failing5 end5
  runs = record { works = λ i m m'. on-working (suc i); fails = λ i m m'. on-failed (suc i); last = λ m m'. at-end }
    where
      on-working : (i : ℕ) {m : Run} {m' : Memory Ring} → Runs k m m' → Runs k ((running k).worked i m) (moved working5 m')
      on-working i (still {t = t} {s = s} h) = rw (run-works k i (run t s) h) (still pos)
      on-working i (gone h) = gone ((run-dead k).works i h)

      on-failed : (i : ℕ) {m : Run} {m' : Memory Ring} → Runs k m m' → Runs k ((running k).failed i m) (moved (failing5 k) m')
      on-failed i (still {t = t} {s = s} h) = rw (run-fails k i (run t s) h, add-one s) (longer k t _ _ refl)
      on-failed i (gone h) = gone ((run-dead k).fails i h)

      at-end : {m : Run} {m' : Memory Ring} → Runs k m m' → (running k).ends m ≡ ended (end5 k) m'
      at-end (still {t = t} {s = s} h) = run_ends k 0 (run t s) h
      at-end (gone h) = (run-dead k).last h

  -- the pairs of the ring, over i components, and the line over n
  pub run-row5 : (i t : ℕ) → Same (running k) (run t 0) (machine_of (row5 k)) (live (pair t 0)) i
  run-row5 i t = alike_same runs i _ _ (still pos)

  pub run-row4 : (n : ℕ) → Same (running k) (run 0 0) (machine_of (row4 k)) (live 0) n
  run-row4 n = same-third (run-row5 n 0) (line_row n k pos)
