-- `report::put_kind` meets its contract: line after line. Assumes nothing.
use native.Mathlib.Omega.{arith}
use Rattle.text.proofs.Adding.{added_more}
use Rattle.season_report.proofs.Lengths.{reach, answers-short, lowest-short}
use Rattle.season_report.specs.Lines.{answers_room, lowest_room}
use borrow.Author.Rules.{rules}
use Rattle.season_report.proofs.put_kind.Goals as goal

pub put_answers-second-requires : goal.put_answers-second-requires
put_answers-second-requires c = search rules

pub put_lowest-third-requires : goal.put_lowest-third-requires
put_lowest-third-requires c =
    omega (arith, c.requires, c.put_answers-second.auto, reach answers_room (answers-short _ _ _) c.put_answers-second.ensures)

pub put_widths-requires : goal.put_widths-requires
put_widths-requires c =
    let first = reach answers_room (answers-short _ _ _) c.put_answers-second.ensures in
    let second = reach lowest_room (lowest-short _ _) c.put_lowest-third.ensures in
    omega (arith, c.requires, c.put_answers-second.auto, c.put_lowest-third.auto, first, second)

pub shape_of-out : goal.shape_of-out
shape_of-out c = search rules

pub returns : goal.returns
returns c =
    added_more (added_more c.put_answers-second.ensures c.put_lowest-third.ensures) c.put_widths.ensures
