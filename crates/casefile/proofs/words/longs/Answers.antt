-- `words::longs` meets its contract: the list so far has the words in its first k places. Assumes nothing.
use Rattle.std.proofs.Common.{◌%◌, ap}
use Rattle.casefile.specs.Words.{long_limit}
use Rattle.casefile.proofs.Beginning.{begins-none, begins-more, begins-all}
use Rattle.casefile.proofs.words.longs.Goals as goal

pub loop-k-init : goal.loop-k-init
loop-k-init c = begins-none _ _

pub loop-k-preserved : goal.loop-k-preserved
loop-k-preserved c =
    begins-more c.loop-k.invariant _ c.loop-k-test.true (ap (λ x. x % long_limit) c.word.ensures)

pub shape_of-into : goal.shape_of-into
shape_of-into c = c.loop-k.invariant.kept

pub returns : goal.returns
returns c = begins-all c.loop-k.invariant c.loop-k-test.false
