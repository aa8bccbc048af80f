-- `mend::header_for` meets its contract: the longest header's room takes every header. Assumes nothing.
use native.Mathlib.Omega.{arith}
use Rattle.layout.proofs.Versions.{header-bounds}
use borrow.Author.Rules.{rules}
use Rattle.mend.proofs.header_for.Goals as goal

pub put_head-requires : goal.put_head-requires
put_head-requires c = record { sized = c.requires; fits = omega (arith, header-bounds c.args.head.version) }
