-- What the writer answers, and what it leaves in the lent room.
use Rattle.std.specs.Prelude.{◌≡◌, false, List, ℕ, ◌/◌, ◌≤◌, length}
use Rattle.rules.specs.declared.Writing.{Writing}
use Rattle.rules.specs.Boards.{boards_read}
use Rattle.rules.specs.Refusal.{bad_version, most_boards}
use Rattle.rules.specs.File.{header_length, per_system, most_fans, most_systems}
use Rattle.rules.specs.Writing.{Typed, bytes_for, write_refusal, Writes, room_written}

pub record Wrote (t : Typed) (room after : List ℕ) (r : Writing) : Type 0 where
  pub answered : Writes r (write_refusal t room) (length (bytes_for t))
  pub written : after ≡ room_written t room

-- a header of a version that there is, n fans, g boards and m systems, that the room has place for
pub record Heads (version n g m : ℕ) (room : List ℕ) : Type 0 where
  pub versioned : bad_version version ≡ false
  pub few : n ≤ most_fans
  pub boards : g ≤ most_boards
  pub fewer : m ≤ most_systems
  pub fits : header_length version ≤ length room

-- counts that a file can have
pub record Sized (version n : ℕ) (switchboards systems : List ℕ) : Type 0 where
  pub few : n ≤ most_fans
  pub boards : length (boards_read version switchboards) ≤ most_boards
  pub fewer : length systems / per_system ≤ most_systems
