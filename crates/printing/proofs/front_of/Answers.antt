-- `front_of` meets its contract: the buffer takes more than the longest file. Assumes nothing.
use mathlib.Core.Path.{sym}
use native.Mathlib.Omega.{arith}
use lib.Seq.{length-take-le}
use Rattle.printing.proofs.Front.{fronted}
use Rattle.printing.proofs.front_of.Goals as goal

pub slice_bounds-result-end : goal.slice_bounds-result-end
slice_bounds-result-end c = sym (length-take-le _ _ c.requires)

pub returns : goal.returns
returns c =
    fronted c.args.input.now c.args.filled (omega (arith, c.buffer-1.given))
