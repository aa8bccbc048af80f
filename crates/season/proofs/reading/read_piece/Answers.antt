-- `reading::read_piece` meets its contract: what was read lies within the buffer. Assumes nothing.
use native.Mathlib.Omega.{arith}
use lib.Seq.{length-take-le}
use Rattle.season.proofs.reading.read_piece.Goals as goal

pub returns : goal.returns
returns c =
    let lent = length-take-le c.args.wanted c.args.piece.now c.requires.1 in
    record { front = omega (arith, c.read_more.ensures.front, c.read_more.auto, lent, c.requires.1); labelled = c.read_more.ensures.labelled }
