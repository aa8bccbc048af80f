-- `verdict::low_ones` meets its contract. Assumes nothing.
use Rattle.verdict.proofs.Windows.{ones-shifted}
use Rattle.verdict.proofs.low_ones.Goals as goal

pub returns : goal.returns
returns c = ones-shifted c.args.width c.requires.1
