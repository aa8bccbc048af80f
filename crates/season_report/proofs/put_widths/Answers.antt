-- `report::put_widths` meets its contract: number after number. Assumes nothing.
use native.Mathlib.Omega.{arith}
use Rattle.text.specs.Decimal.{text}
use Rattle.text.proofs.Adding.{pair-reach, added_more}
use borrow.Author.Rules.{rules}
use Rattle.season_report.proofs.put_widths.Goals as goal

pub put_pair-unit-requires : goal.put_pair-unit-requires
put_pair-unit-requires c = search rules

pub put_pair-last-requires : goal.put_pair-last-requires
put_pair-last-requires c =
    omega (arith, c.requires, c.put_pair-unit.auto, pair-reach (text "kind ") _ (text " widths ") _ c.put_pair-unit.ensures)

pub put_one-requires : goal.put_one-requires
put_one-requires c =
    let first = pair-reach (text "kind ") _ (text " widths ") _ c.put_pair-unit.ensures in
    let second = pair-reach (text " unit ") _ (text " widths ") _ c.put_pair-last.ensures in
    omega (arith, c.requires, c.put_pair-unit.auto, c.put_pair-last.auto, first, second)

pub shape_of-out : goal.shape_of-out
shape_of-out c = search rules

pub returns : goal.returns
returns c =
    added_more (added_more c.put_pair-unit.ensures c.put_pair-last.ensures) c.put_one.ensures
