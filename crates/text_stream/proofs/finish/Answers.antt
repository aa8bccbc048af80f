-- `finish` meets its contract: nothing is kept, or a last line. Assumes nothing.
use mathlib.Core.Path.{sym}
use native.Mathlib.Omega.{arith}
use lib.Seq.{length-take-le}
use Rattle.text_stream.proofs.Pieces.{ends-none, ends-line}
use Rattle.text_stream.proofs.finish.Goals as goal

pub last-requires : goal.last-requires
last-requires c =
    (c.requires.sane.0.listing, omega (arith, c.requires.lines_bound))

pub returns-then-kept-eq0 : goal.returns-then-kept-eq0
returns-then-kept-eq0 c =
    record { sane = c.last.ensures.sane; holds = λ bytes h. ends-none h c.if-kept-eq0.true c.last.ensures }

pub slice_bounds-read_line-end : goal.slice_bounds-read_line-end
slice_bounds-read_line-end c =
    sym (length-take-le _ _ (omega (arith, c.requires.sane.0.within, c.requires.sane.1)))

pub read_line-read-requires : goal.read_line-read-requires
read_line-read-requires c =
    (c.requires.sane.0.listing, omega (arith, c.requires.lines_bound))

pub last-requires-2 : goal.last-requires-2
last-requires-2 c =
    (c.read_line-read.ensures.sane, omega (arith, c.requires.lines_bound, c.read_line-read.ensures.few))

pub returns : goal.returns
returns c =
    let long = length-take-le c.args.before.kept c.args.line.now (omega (arith, c.requires.sane.0.within, c.requires.sane.1)) in
    record { sane = c.last-2.ensures.sane; holds = λ bytes h. ends-line h (omega (arith, long, c.if-kept-eq0.false)) c.read_line-read.ensures c.last-2.ensures }
