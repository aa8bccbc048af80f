-- `ending::unplaced` meets its contract: after i turns what was told is what is told of the first i fans. Assumes nothing.
use native.Mathlib.Omega.{arith}
use lib.Seq.{length-take-le, get_or-take}
use Rattle.listing.proofs.Passing.{passing-none, passing-on, passing-all}
use Rattle.listing.proofs.ending.unplaced.Goals as goal

pub loop-i-init : goal.loop-i-init
loop-i-init c = passing-none _ _ _ _ _ c.requires.0

pub pass-passed-requires : goal.pass-passed-requires
pass-passed-requires c =
    c.loop-i.invariant.told.room

pub loop-i-preserved : goal.loop-i-preserved
loop-i-preserved c =
    let b = length-take-le c.args.fans.count c.args.fans.boards (omega (arith, c.requires.1.few, c.requires.1.boards)) in
    let m = length-take-le c.args.fans.count c.args.fans.lines (omega (arith, c.requires.1.few, c.requires.1.lines)) in
    let gb = get_or-take c.args.fans.count c.args.fans.boards c.loop-i.i 0 c.loop-i-test.true in
    let gl = get_or-take c.args.fans.count c.args.fans.lines c.loop-i.i 0 c.loop-i-test.true in
    passing-on c.loop-i.invariant (omega (arith, b, c.loop-i-test.true)) (omega (arith, m, c.loop-i-test.true)) (rw (gb, gl) c.pass-passed.ensures)

pub returns : goal.returns
returns c =
    let b = length-take-le c.args.fans.count c.args.fans.boards (omega (arith, c.requires.1.few, c.requires.1.boards)) in
    passing-all c.loop-i.invariant (omega (arith, b, c.loop-i-test.false))
