-- The working table's map: which of its first `cells` cells hold what while a list is rated or counted.
use Rattle.std.specs.Prelude.{ℕ}
use Rattle.rules.specs.Refusal.{heaviest}

-- low ends stand in the first `far` cells, the high end of each as many further
abbrev pub far : ℕ
far = 1200

-- the second half of the places: the other side of a row, and the memories that owe as many as are left
abbrev pub half : ℕ
half = 600

-- where the shares of the components stand
abbrev pub shares : ℕ
shares = 900

-- a mark for each pattern
abbrev pub marks : ℕ
marks = 2400

-- the four lists of patterns
abbrev pub free_at : ℕ
free_at = 3000

abbrev pub split_at : ℕ
split_at = 3300

abbrev pub bound_at : ℕ
bound_at = 3600

abbrev pub alone_at : ℕ
alone_at = 3900

-- how far apart the count tables' rows stand: of bins, and of sums
abbrev pub bin_row : ℕ
bin_row = 66

abbrev pub sum_row : ℕ
sum_row = heaviest
