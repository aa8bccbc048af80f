-- Which decks a file can hold: of a version that there is, 1 to 64 fans with a weight each, 1 to 32 systems, boards where the version has them, and numbers that
-- fit the layout's fields.
use Rattle.std.specs.Prelude.{◌≡◌, false, ◌^◌, ◌≤◌, length}
use Rattle.rules.specs.Boards.{boards_read}
use Rattle.rules.specs.Refusal.{bad_version, bad_boards, misplaced}
use Rattle.rules.specs.File.{Deck, system_numbers, most_fans, most_systems}
use Rattle.layout.specs.Fits.{Under}

-- "P (4 bytes each), weights (2 each)", a system's five numbers "2 each"; a board's number 4. A version without boards has no list of them.
pub record Bounds (d : Deck) : Type 0 where
  pub versioned : bad_version d.version ≡ false
  pub some_fan : 1 ≤ length d.survival
  pub most_fans : length d.survival ≤ most_fans
  pub weighed : length d.weights ≡ length d.survival
  pub some_system : 1 ≤ length d.systems
  pub most-systems : length d.systems ≤ most_systems
  pub counted : bad_boards d.version (length d.switchboards) ≡ false
  pub placed : misplaced d.version (length d.survival) (length d.switchboards) d.boards d.boards ≡ false
  pub own_boards : boards_read d.version d.boards ≡ d.boards
  pub own_numbers : boards_read d.version d.switchboards ≡ d.switchboards
  pub survival_fits : Under (2 ^ 32) d.survival
  pub weights_fit : Under (2 ^ 16) d.weights
  pub boards_fit : Under (2 ^ 32) d.switchboards
  pub systems_fit : Under (2 ^ 16) (system_numbers d.systems)
