-- `making::put_warning` meets its contract, case by case: the line's end fits behind the two numbers. Assumes nothing.
use native.Mathlib.Omega.{arith}
use Rattle.text.specs.Decimal.{text}
use Rattle.text.proofs.Adding.{none-added, put-added, added_more, pair-reach}
use Rattle.making.proofs.put_warning.Goals as goal

pub put-requires : goal.put-requires
put-requires c =
    omega (arith, c.requires, c.put_pair-end.auto, pair-reach (text "system ") _ (text " will be refused ") _ c.put_pair-end.ensures)

pub returns-in-Range : goal.returns-in-Range
returns-in-Range c =
    rw c.in-Range.is (none-added c.args.out.now c.args.at)

pub returns-in-Refused : goal.returns-in-Refused
returns-in-Refused c =
    let reach = pair-reach (text "system ") _ (text " will be refused ") _ c.put_pair-end.ensures in
    rw c.in-Refused.is (added_more c.put_pair-end.ensures (put-added (omega (arith, c.requires, c.put_pair-end.auto, reach)) c.put.ensures))
