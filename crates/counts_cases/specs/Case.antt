-- The words of a count case before its weights.
use Rattle.std.specs.Prelude.{ℕ}

abbrev pub head_words : ℕ
head_words = 8
