-- Counts read from a memory of a kind's own row, and what the recurrences are about.
use Rattle.std.specs.Prelude.{ℕ, zero, suc, ◌+◌, ◌-◌}
use Rattle.rules.specs.Count.{count_if}
use Rattle.rules.specs.Memory.{Row, Memory, live, run, machine_of, row4}

-- of the states of the components 1 to i with exactly j failed, how many work, read from the memory m?
unfoldable pub from : {A : Type 0} → Row A → (m : Memory A) (i j : ℕ) → ℕ
from R m i j = count_if (run (machine_of R) i m) i j

-- kind 4's line, read from memory 0
abbrev pub line4 : (k i j : ℕ) → ℕ
line4 k i j = from (row4 k) (live 0) i j

-- kind 4 by bins: v working components leave v + 1 bins for the failed ones, each of fewer than k. No bin holds none failed in one way, and no more.
unfoldable pub bins : (k b j : ℕ) → ℕ
bins k zero j = 1 - j
bins k (suc v) j = line4 k (v + j) j

-- f at j - u, and 0 where u is above j
unfoldable pub shift : (f : ℕ → ℕ) (u j : ℕ) → ℕ
shift f zero j = f j
shift f (suc u) zero = 0
shift f (suc u) (suc j) = shift f u j
