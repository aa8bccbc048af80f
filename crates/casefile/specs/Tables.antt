-- The rubbish that a lent table holds before a call, and the checksum of what it holds after.
use Rattle.std.specs.Prelude.{ℕ, zero, suc, ◌+◌, ◌*◌, ◌%◌, ◌^◌, List, length, slice_index}
use Rattle.rules.specs.Below.{sum_below}

-- a number times the factor, plus the step, is the next
abbrev pub factor : ℕ
factor = 6364136223846793005

abbrev pub step : ℕ
step = 1442695040888963407

-- the k-th number after a seed, and the number in cell k
unfoldable pub rubbish_at : (seed k : ℕ) → ℕ
rubbish_at seed zero = seed
rubbish_at seed (suc k) = (rubbish_at seed k * factor + step) % 2 ^ 64

abbrev pub rubbish_in : (seed k : ℕ) → ℕ
rubbish_in seed k = rubbish_at seed (k + 1)

-- (i + 1) times cell i, added up over the first k cells
abbrev pub weighed_sum : (cells : List ℕ) (k : ℕ) → ℕ
weighed_sum cells k = sum_below k (λ i. (i + 1) * slice_index cells i)

abbrev pub checksum_of : List ℕ → ℕ
checksum_of cells = weighed_sum cells (length cells) % 2 ^ 64
