-- The words of a verdict case before its weights.
use Rattle.std.specs.Prelude.{ℕ}

abbrev pub head_words : ℕ
head_words = 6
