-- `making::put_warnings` meets its contract: the buffer so far has the warnings of the systems passed, and room for the rest. Assumes nothing.
use mathlib.Core.Path.{◌≡◌}
use native.Mathlib.Omega.{arith}
use native.Mathlib.Numerals.{add-one}
use Rattle.text.proofs.Adding.{none-added, added_more}
use Rattle.making.specs.Lines.{warnings_text}
use Rattle.making.proofs.Lengths.{warnings-short}
use Rattle.making.proofs.put_warnings.Goals as goal
use Rattle.making.proofs.put_warnings.Goals.{After-open-opened}

pub loop-s-init : goal.loop-s-init
unfolding warnings_text
loop-s-init c = none-added c.args.out.now 0

pub rate_opened-rating-requires : goal.rate_opened-rating-requires
rate_opened-rating-requires c = ((goal.at.rate_opened-rating-requires c).After-open-opened).open-opened.ensures

pub put_warning-end-requires : goal.put_warning-end-requires
put_warning-end-requires c =
    let lines = warnings-short c.args.file.now c.loop-s.s in
    omega (arith, c.requires.few, c.requires.room, c.loop-s-test.true, c.loop-s.auto, c.loop-s.invariant.ends, lines)

pub loop-s-preserved : goal.loop-s-preserved
unfolding warnings_text
loop-s-preserved c =
    let line = rw (c.rate_opened-rating.ensures, add-one c.loop-s.s) at c.put_warning-end.ensures in
    rw add-one (added_more c.loop-s.invariant line)

pub returns : goal.returns
returns c =
    let e : c.loop-s.s ≡ c.args.count = omega (arith, c.loop-s-test.false) in
    rw e at c.loop-s.invariant
