-- How the line of a place or of two ends: ` low L high H X% to Y%`, the figures after the swap. And the room that it takes at most.
use Rattle.std.specs.Prelude.{List, ◌++◌, ℕ, ◌+◌}
use Rattle.text.specs.Decimal.{text}
use Rattle.text.specs.Lines.{pair_text, pair_room}
use Rattle.percent.specs.Percent.{range_text, range_room}

abbrev pub range_end : (u low high : ℕ) → List ℕ
range_end u low high = range_text u low high ++ text "\n"

abbrev pub rated_text : (u low high : ℕ) → List ℕ
rated_text u low high = pair_text (text " low ") low (text " high ") high ++ range_end u low high

abbrev pub rated_room : ℕ
rated_room = pair_room (text " low ") (text " high ") + range_room + 1
