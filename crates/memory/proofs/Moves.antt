-- Moves that are not the table's own. Over several components at once: so many single moves, by induction over how many. Back: the table's move takes the
-- memory before to the one at hand, by the numbers they hold. Assumes nothing.
use mathlib.Core.Path.{◌≡◌, ap}
use Prim.Native.Nat.{ℕ, zero, suc, ◌+◌, ◌-◌, ◌<◌}
use native.Mathlib.Omega.{arith}
use Rattle.memory.specs.declared.run.Run.{Run}
use Rattle.memory.specs.declared.run.Lead.{Lead}
use Rattle.memory.specs.declared.owed.Owed.{Owed}
use Rattle.memory.specs.Run.{run, lead, run_failed, lead_failed}
use Rattle.memory.specs.Owed.{owed, clean, owed_worked, clean_after, clean_worked}

-- a move made k times
unfoldable pub times : {M : Type 0} → ℕ → (M → M) → M → M
times zero move m = m
times (suc k) move m = move (times k move m)

pub worked-many : (k : ℕ) (m : Owed) → times k owed_worked m ≡ owed m.clean (m.owed - k)
unfolding times
worked-many zero m = ap (owed m.clean) (omega arith)
worked-many (suc k) m = rw (worked-many k m) (ap (owed m.clean) (omega arith))

pub clean_after_lem : (r k : ℕ) → times k (clean_worked r) (clean 0) ≡ clean_after r k
unfolding times
clean_after_lem r zero = ap clean (omega arith)
clean_after_lem r (suc k) = rw (clean_after_lem r k) (ap clean (omega arith))

-- the memory before, moved
pub run-failed-before : (m : Run) → 0 < m.run → run_failed (run m.lead (m.run - 1)) ≡ m
run-failed-before m some = ap (run m.lead) (omega arith)

pub lead-failed-before : (m : Lead) → 0 < m.lead → lead_failed (lead (m.lead - 1)) ≡ m
lead-failed-before m some = ap lead (omega arith)

pub owed-worked-before : (m : Owed) → owed_worked (owed m.clean (m.owed + 1)) ≡ m
owed-worked-before m = ap (owed m.clean) (omega arith)
