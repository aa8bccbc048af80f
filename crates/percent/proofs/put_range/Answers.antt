-- `percent::put_range` meets its contract: both percents fit. Assumes nothing.
use native.Mathlib.Omega.{arith}
use Rattle.text.specs.Decimal.{text}
use Rattle.text.proofs.Adding.{added_more}
use Rattle.percent.proofs.Digits.{percent-reach}
use Rattle.percent.proofs.put_range.Goals as goal

pub put_percent-requires : goal.put_percent-requires
put_percent-requires c =
    omega (arith, c.requires.room, c.put_percent-middle.auto, percent-reach (text " ") _ c.put_percent-middle.ensures)

pub returns : goal.returns
returns c =
    let first = rw c.percent_of.ensures at c.put_percent-middle.ensures in
    added_more first (rw c.percent_of-2.ensures at c.put_percent.ensures)
