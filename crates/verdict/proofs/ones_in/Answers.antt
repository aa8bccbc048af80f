-- `verdict::ones_in` meets its contract: a mask of low ones keeps the remainder. Assumes nothing.
use mathlib.Core.Path.{ap, ◌∙◌}
use lib.Bits.{and_mask}
use lib.Count.{ones}
use Rattle.verdict.proofs.ones_in.Goals as goal

pub returns : goal.returns
returns c = c.ones_of.ensures ∙ rw c.low_ones-mask.ensures (ap ones (and_mask _ c.args.width))
