-- What is put ends within the buffer.
use Rattle.std.specs.Prelude.{ℕ, ◌≤◌, List, length}

abbrev pub Within : (end : ℕ) (out : List ℕ) → Type 0
Within end out = end ≤ length out
