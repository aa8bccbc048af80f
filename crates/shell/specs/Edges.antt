-- Input that is within its buffer.
use Rattle.std.specs.Prelude.{ℕ, ◌≤◌}
use Rattle.shell.specs.declared.reading.Input.{Input}
use Rattle.shell.specs.declared.reading.Input.TheVariants.{Filled, Failed}
use Rattle.shell.specs.declared.sources.More.{More}

-- a buffer of so many bytes can hold the input
abbrev pub FitsIn : (most : ℕ) → Input → Type 0
FitsIn most (Filled n) = n ≤ most
FitsIn most Failed = Unit {0}

-- room for what a message names, and what one of several inputs gave
abbrev pub label_room : ℕ
label_room = 4352

pub record FitsNext (most : ℕ) (r : More) : Type 0 where
  pub front : r.filled ≤ most
  pub labelled : r.source.end ≤ label_room
