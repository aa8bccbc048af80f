-- `report::put_head` meets its contract: line after line. Assumes nothing.
use native.Mathlib.Omega.{arith}
use Rattle.text.specs.Decimal.{text}
use Rattle.text.proofs.Adding.{added_more}
use Rattle.season_report.proofs.Lengths.{reach, one-short, two-short}
use Rattle.season_report.specs.Lines.{one_room, two_room}
use borrow.Author.Rules.{rules}
use Rattle.season_report.proofs.put_head.Goals as goal

pub put_one-files-requires : goal.put_one-files-requires
put_one-files-requires c = search rules

pub put_two-end-requires : goal.put_two-end-requires
put_two-end-requires c =
    omega (arith, c.requires, c.put_one-files.auto, reach (one_room (text "decks ")) (one-short (text "decks ") _) c.put_one-files.ensures)

pub put_one-requires : goal.put_one-requires
put_one-requires c =
    let first = reach (one_room (text "decks ")) (one-short (text "decks ") _) c.put_one-files.ensures in
    let second = reach (two_room (text "files refused ") (text " number ")) (two-short (text "files refused ") _ (text " number ") _) c.put_two-end.ensures in
    omega (arith, c.requires, c.put_one-files.auto, c.put_two-end.auto, first, second)

pub shape_of-out : goal.shape_of-out
shape_of-out c = search rules

pub returns : goal.returns
returns c =
    added_more (added_more c.put_one-files.ensures c.put_two-end.ensures) c.put_one.ensures
