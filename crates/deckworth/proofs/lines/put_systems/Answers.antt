-- `lines::put_systems` meets its contract: the lines of few systems stand in the first buffer, those of more in both, half of the most in the first. Assumes nothing.
use native.Mathlib.Omega.{arith}
use Rattle.deck.proofs.Kept.{few-systems}
use Rattle.deckworth.proofs.Halves.{in-first, in_both, from_first, halves}
use Rattle.deckworth.proofs.lines.put_systems.Goals as goal

pub put_some-all-requires : goal.put_some-all-requires
put_some-all-requires c =
    record { headed = c.requires.headed; few = (omega arith, omega (arith, c.if-head-le-HALF.true)); room = c.requires.room.0 }

pub returns-then-head-le-HALF : goal.returns-then-head-le-HALF
returns-then-head-le-HALF c =
    let all = in-first c.args.more.now c.put_some-all.ensures in
    rw (from_first c.args.words c.args.file.now c.args.head.systems, c.requires.headed.says.systems) at all

pub put_some-first-requires : goal.put_some-first-requires
put_some-first-requires c =
    record { headed = c.requires.headed; few = (omega (arith, c.if-head-le-HALF.false), omega arith); room = c.requires.room.0 }

pub put_some-second-requires : goal.put_some-second-requires
put_some-second-requires c =
    record { headed = c.requires.headed; few = (omega (arith, c.if-head-le-HALF.false), omega (arith, few-systems c.requires.headed)); room = c.requires.room.1 }

pub returns : goal.returns
returns c =
    rw (halves c.args.words c.args.file.now c.args.head.systems (omega (arith, c.if-head-le-HALF.false)), c.requires.headed.says.systems) at (in_both c.put_some-first.ensures c.put_some-second.ensures)
