-- `report::put_answers` meets its contract: two numbers after two. Assumes nothing.
use native.Mathlib.Omega.{arith}
use Rattle.text.specs.Decimal.{text}
use Rattle.text.proofs.Adding.{pair-reach, added_more}
use borrow.Author.Rules.{rules}
use Rattle.season_report.proofs.put_answers.Goals as goal

pub put_pair-three-requires : goal.put_pair-three-requires
put_pair-three-requires c = search rules

pub put_pair-five-requires : goal.put_pair-five-requires
put_pair-five-requires c =
    omega (arith, c.requires, c.put_pair-three.auto, pair-reach (text "kind ") _ (text " answered ") _ c.put_pair-three.ensures)

pub put_two-requires : goal.put_two-requires
put_two-requires c =
    let first = pair-reach (text "kind ") _ (text " answered ") _ c.put_pair-three.ensures in
    let second = pair-reach (text " refused 3 ") _ (text " 4 ") _ c.put_pair-five.ensures in
    omega (arith, c.requires, c.put_pair-three.auto, c.put_pair-five.auto, first, second)

pub shape_of-out : goal.shape_of-out
shape_of-out c = search rules

pub returns : goal.returns
returns c =
    added_more (added_more c.put_pair-three.ensures c.put_pair-five.ensures) c.put_two.ensures
