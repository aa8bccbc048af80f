-- `report::put_report` meets its contract: all lines fit. Assumes nothing.
use native.Mathlib.Omega.{arith}
use Rattle.text.proofs.Adding.{added_more, added-counts}
use Rattle.rules.specs.Refusal.{last_kind}
use Rattle.season_report.specs.Lines.{head_room, kinds_room}
use Rattle.season_report.proofs.Lengths.{reach, head-short, kinds-short}
use borrow.Author.Rules.{rules}
use Rattle.season_report.proofs.put_report.Goals as goal

pub put_head-first-requires : goal.put_head-first-requires
put_head-first-requires c = search rules

pub put_kinds-last-requires : goal.put_kinds-last-requires
put_kinds-last-requires c =
    omega (arith, c.requires, c.put_head-first.auto, reach head_room (head-short _ _ _ _) c.put_head-first.ensures)

pub put_one-requires : goal.put_one-requires
put_one-requires c =
    let first = reach head_room (head-short _ _ _ _) c.put_head-first.ensures in
    let second = reach kinds_room (kinds-short last_kind _) c.put_kinds-last.ensures in
    omega (arith, c.requires, c.put_head-first.auto, c.put_kinds-last.auto, first, second)

pub shape_of-out : goal.shape_of-out
shape_of-out c = search rules

pub returns : goal.returns
returns c =
    let all =
    added_more
    (added_more c.put_head-first.ensures c.put_kinds-last.ensures)
    c.put_one.ensures in
    record { counts = added-counts all; stands = all.stands }
