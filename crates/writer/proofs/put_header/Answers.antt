-- `writer::put_header` meets its contract: version and counts laid from the front on, the offsets behind them, and what the version has more. Assumes nothing.
use mathlib.Core.Path.{ap}
use native.Mathlib.Omega.{arith}
use lib.ListN.{length}
use Rattle.layout.proofs.Header.{version-fits}
use Rattle.layout.proofs.Versions.{header-bounds, fans-bound}
use Rattle.writer.specs.Laid.{laid}
use Rattle.writer.proofs.Parts.{last_fits, header-laid}
use borrow.Author.Rules.{rules}
use Rattle.writer.proofs.put_header.Goals as goal

pub overflow_cast-counts : goal.overflow_cast-counts
overflow_cast-counts c = record { fits = omega (arith, version-fits c.args.version c.requires.versioned) }

pub put_all2-requires : goal.put_all2-requires
put_all2-requires c = omega (arith, c.requires.fits, header-bounds c.args.version)

pub overflow_cast-systems : goal.overflow_cast-systems
overflow_cast-systems c =
    record { fits = omega (arith, c.systems_offset-systems.ensures.0, header-bounds c.args.version, fans-bound c.args.version c.args.n, c.requires.few, c.requires.boards) }

pub put_all4-requires : goal.put_all4-requires
put_all4-requires c =
    omega (arith, c.requires.fits, header-bounds c.args.version)

pub put_all4-requires-2 : goal.put_all4-requires-2
put_all4-requires-2 c =
    omega (arith, c.requires.fits, ap length c.numbers_read.ensures, last_fits c.args.version c.args.g c.boards_offset-boards.result)

pub returns : goal.returns
returns c =
    header-laid c.args.version c.args.n c.args.g c.args.m c.args.room.now c.requires.fits c.put_all2.ensures
    (rw (c.header_length-header.ensures.0, c.weights_offset-weights.ensures.0, c.systems_offset-systems.ensures.0) at c.put_all4.ensures)
    (rw (c.numbers_read.ensures, c.boards_offset-boards.ensures.0) at c.put_all4-2.ensures)
