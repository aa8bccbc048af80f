-- How much a case file and its cases hold at most.
use Rattle.std.specs.Prelude.{ℕ}

abbrev pub most_bytes : ℕ
most_bytes = 1572864

abbrev pub most_numbers : ℕ
most_numbers = 256
