-- What is drawn of a system is within a deck.
use Rattle.std.specs.Prelude.{ℕ, suc, ◌+◌, ◌≤◌}
use Rattle.drawn.specs.declared.Shape.{Shape}

-- as many fans as a deck has at most
abbrev pub most_drawn : ℕ
most_drawn = 64

pub record Drawable (s : Shape) : Type 0 where
  pub fans : s.fans ≤ most_drawn
  pub from : s.from ≤ most_drawn
  pub upto : s.upto ≤ most_drawn
  pub order : s.from ≤ s.upto
  pub first : 1 ≤ s.from
  pub some : 1 ≤ s.fans
  pub fits : s.from + s.window ≤ suc s.upto
