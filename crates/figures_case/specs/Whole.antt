-- A case that is whole: it ends within the file, and its lists and its table fit the rooms made for them.
use Rattle.std.specs.Prelude.{◌≡◌, List, ℕ, ◌+◌, ◌≤◌, length}
use Rattle.casefile.specs.Rooms.{most_numbers}
use Rattle.figures_case.specs.declared.Sizes.{Sizes}

-- the words before the survival numbers, and those of a case beside its lists
abbrev pub head_words : ℕ
head_words = 11

abbrev pub other_words : ℕ
other_words = 15

abbrev pub most_cells : ℕ
most_cells = 8000

pub record Whole (bytes : List ℕ) (at : ℕ) (s : Sizes) : Type 0 where
  pub fans : s.fans ≤ most_numbers
  pub weights : s.weights ≤ most_numbers
  pub more : s.more ≤ most_numbers
  pub boards : s.boards ≤ most_numbers
  pub g : s.g ≤ most_numbers
  pub room : s.room ≤ most_cells
  pub long : s.long ≡ other_words + s.fans + s.weights + s.more + s.boards + s.g
  pub ends : at + other_words + s.fans + s.weights + s.more + s.boards + s.g ≤ length bytes
