-- How long each line can be, and all of them in a file's room. Assumes nothing.
use Prim.Native.Nat.{ℕ, ◌≤◌}
use lib.ListN.{length, get_or}
use Rattle.rules.specs.File.{Deck}
use Rattle.arrays.specs.Padded.{no_system}
use Rattle.text.specs.Decimal.{text}
use Rattle.wording.specs.Lines.{version_text, version_room, board_room, fan_room, system_room}
use Rattle.wording.proofs.Lengths.{one-short, fan-short, system-short}
use Rattle.deckshow.specs.Lines.{board_line, fan_line, system_line}

pub version-short : (version : ℕ) → length (version_text version) ≤ version_room
version-short version = one-short (text "version ") version (text "\n")

module _ (d : Deck) where
  pub board-line : (i : ℕ) → length (board_line d i) ≤ board_room
  board-line i = one-short (text "board ") (get_or d.switchboards i 0) (text "\n")

  pub fan-line : (i : ℕ) → length (fan_line d i) ≤ fan_room
  fan-line i = fan-short (get_or d.survival i 0) (get_or d.weights i 0) (get_or d.boards i 0)

  pub system-line : (s : ℕ) → length (system_line d s) ≤ system_room
  system-line s =
      let y = get_or d.systems s no_system in
      system-short (length d.survival) y.rule.kind y.rule.first y.rule.second y.a y.b
