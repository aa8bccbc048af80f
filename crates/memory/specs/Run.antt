-- Rows 4 and 5: (t, s) and lead t. A run of k is dead.
use Rattle.std.specs.Prelude.{Bool, ℕ, ◌+◌, ltb, leb}
use Rattle.rules.specs.Memory.{Machine}
use Rattle.memory.specs.declared.run.Run.{Run}
use Rattle.memory.specs.declared.run.Lead.{Lead}
use Rattle.memory.specs.Living.{living}

abbrev pub run : (lead run : ℕ) → Run
run t s = record { lead = t; run = s }

abbrev pub lead : ℕ → Lead
lead t = record { lead = t }

abbrev pub run_worked : Run → Run
run_worked m = run m.lead 0

abbrev pub run_failed : Run → Run
run_failed m = run m.lead (m.run + 1)

abbrev pub run_works : (k : ℕ) → Run → Bool
run_works k m = ltb (m.lead + m.run) k

abbrev pub lead_worked : Lead → Run
lead_worked m = run m.lead 0

abbrev pub lead_failed : Lead → Lead
lead_failed m = lead (m.lead + 1)

abbrev pub lead_works : (k : ℕ) → Lead → Bool
lead_works k m = ltb m.lead k

-- as a machine
abbrev pub run_moves : (k : ℕ) → Machine Run
run_moves k = record { start = run 0 0; worked = λ i. run_worked; failed = λ i. run_failed; ends = run_works k }

abbrev pub run_dead : (k : ℕ) → Run → Bool
run_dead k m = leb k m.run

unfoldable pub running : (k : ℕ) → Machine Run
running k = living (run_dead k) (run_moves k)
