-- Rows 6 and 7: (x, g) and clean x. A memory that owes r, more than any window can, is dead.
use Rattle.std.specs.Prelude.{Bool, cond, ℕ, ◌+◌, ◌-◌, min, leb, eqb}
use Rattle.rules.specs.Memory.{Machine}
use Rattle.memory.specs.declared.owed.Owed.{Owed}
use Rattle.memory.specs.declared.owed.Clean.{Clean}
use Rattle.memory.specs.Living.{living}

abbrev pub owed : (clean owed : ℕ) → Owed
owed x g = record { clean = x; owed = g }

abbrev pub clean : ℕ → Clean
clean x = record { clean = x }

abbrev pub owed_worked : Owed → Owed
owed_worked m = owed m.clean (m.owed - 1)

abbrev pub owed_failed : (r : ℕ) → Owed → Owed
owed_failed r m = owed m.clean (cond (eqb m.owed 0) (r - 1) r)

abbrev pub owed_works : Owed → Bool
owed_works m = leb m.owed m.clean

abbrev pub clean_worked : (r : ℕ) → Clean → Clean
clean_worked r m = clean (min (m.clean + 1) (r - 1))

abbrev pub clean_failed : (r : ℕ) → Clean → Owed
clean_failed r m = owed m.clean (r - 1)

-- so many components read, all working
abbrev pub clean_after : (r read : ℕ) → Clean
clean_after r read = clean (min read (r - 1))

-- as a machine
abbrev pub owed_moves : (r : ℕ) → Machine Owed
owed_moves r = record { start = owed (r - 1) 0; worked = λ i. owed_worked; failed = λ i. owed_failed r; ends = owed_works }

abbrev pub owed_dead : (r : ℕ) → Owed → Bool
owed_dead r m = leb r m.owed

unfoldable pub owing : (r : ℕ) → Machine Owed
owing r = living (owed_dead r) (owed_moves r)
