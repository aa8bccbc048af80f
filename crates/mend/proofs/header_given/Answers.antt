-- `mend::header_given` meets its contract: no header is longer than the longest. Assumes nothing.
use native.Mathlib.Omega.{arith}
use Rattle.layout.proofs.Versions.{header-bounds}
use borrow.Author.Rules.{rules}
use Rattle.mend.proofs.header_given.Goals as goal

pub returns : goal.returns
returns c =
    (c.header_length.ensures.0, omega (arith, c.header_length.ensures.0, header-bounds c.args.head.version))
