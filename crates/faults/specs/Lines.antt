-- Where a line of a text stands.
use Rattle.std.specs.Prelude.{◌≡◌, List, [], ℕ, ◌≤◌, length, get_or}
use Rattle.grammar.specs.Words.{lines_of}
use Rattle.grammar.specs.Stands.{part}

pub record LineAt (table : List ℕ) (k from upto : ℕ) : Type 0 where
  pub low : from ≤ upto
  pub high : upto ≤ length table
  pub line : part table from upto ≡ get_or (lines_of table) k []
