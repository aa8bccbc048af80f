-- `verdict::high_one` meets its contract: two or more is left above bit n - 2 exactly if the word is 2 ^ n or more. Assumes nothing.
use Rattle.verdict.proofs.Windows.{high-shifted}
use Rattle.verdict.proofs.high_one.Goals as goal

pub returns : goal.returns
returns c = high-shifted c.args.n c.args.w c.requires.0
