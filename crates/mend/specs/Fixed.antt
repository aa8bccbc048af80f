-- Document 02, request 14: "It writes the offsets and the zero field that the layout fixes". The places that are in none of those fields.
use Rattle.std.specs.Prelude.{◌≡◌, true, ℕ, ◌+◌, ◌≤◌}
use Rattle.rules.specs.Boards.{has_boards}
use Rattle.rules.specs.File.{zero_field, survival_field, weights_field, systems_field, boards_field}

-- before a field of so many bytes, or behind it
abbrev pub Beside : (field width place : ℕ) → Type 0
Beside field width place = field ≤ place → field + width ≤ place

pub record Elsewhere (version place : ℕ) : Type 0 where
  pub zero_field : Beside zero_field 2 place
  pub survival_offset : Beside survival_field 4 place
  pub weights_offset : Beside weights_field 4 place
  pub systems_offset : Beside systems_field 4 place
  pub boards_offset : has_boards version ≡ true → Beside boards_field 4 place
