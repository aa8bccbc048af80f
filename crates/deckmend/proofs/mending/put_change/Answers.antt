-- `mending::put_change` meets its contract: what ends the line fits behind the first two numbers. Assumes nothing.
use native.Mathlib.Omega.{arith}
use Rattle.text.specs.Decimal.{text}
use Rattle.text.proofs.Adding.{added_more, pair-reach}
use Rattle.deckmend.proofs.mending.put_change.Goals as goal

pub put_end-requires : goal.put_end-requires
put_end-requires c =
    omega (arith, c.requires, c.put_pair-end.auto, pair-reach (text "byte ") c.args.place (text " was ") c.args.old c.put_pair-end.ensures)

pub returns : goal.returns
returns c =
    added_more c.put_pair-end.ensures c.put_end.ensures
