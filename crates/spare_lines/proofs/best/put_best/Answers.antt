-- `best::put_best` meets its contract: the buffer so far has the lines of the groups passed, and room for the rest, since no more places are named than there are.
-- Assumes nothing.
use Prim.Native.Nat.{◌+◌, ◌≤◌}
use native.Mathlib.Omega.{arith}
use Rattle.printing.proofs.Lined.{no_lines, one_more, all_lines}
use Rattle.spare_lines.specs.Best.{ranked_in}
use Rattle.spare_lines.proofs.Rounds.{first-standing, next-round, named-most, round-fits, round_is}
use Rattle.spare_lines.proofs.best.put_best.Goals as goal
use Rattle.spare_lines.proofs.best.put_best.Goals.{After-group_of-group}

pub loop-round-init : goal.loop-round-init
loop-round-init c = (no_lines _ _ _ _, first-standing _ c.requires.few.few.0)

pub group_of-group-requires : goal.group_of-group-requires
group_of-group-requires c = record { few = c.requires.few.few.0; within = c.requires.within; long = c.loop-round.invariant.1.long }

-- what is named before the group and with it
named : (c : After-group_of-group) → c.loop-round.gone + c.group_of-group.result.count ≤ c.args.shown.size
named c = named-most (ranked_in c.args.shown.size c.args.places c.args.before) c.loop-round._round c.loop-round.invariant.1 c.group_of-group.ensures

pub overflow_add-gone : goal.overflow_add-gone
overflow_add-gone c = omega (arith, named ((goal.at.overflow_add-gone c).After-group_of-group), c.requires.few.few)

pub put_round-end-requires : goal.put_round-end-requires
put_round-end-requires c =
    record {
      few = c.requires.few;
      within = record { after = c.requires.within.after };
      group = c.group_of-group.ensures.long.1;
      room = λ shows. round-fits c.args.shown c.args.best c.args.places c.args.before c.loop-round._round c.loop-round.invariant.1 c.group_of-group.ensures c.loop-round.invariant.0 c.requires.few.few.0 c.requires.room;
    }

pub overflow_add-gone-in-loop-round : goal.overflow_add-gone-in-loop-round
overflow_add-gone-in-loop-round c = omega (arith, named ((goal.at.overflow_add-gone-in-loop-round c).After-group_of-group), c.requires.few.few)

pub loop-round-preserved : goal.loop-round-preserved
loop-round-preserved c =
    let g = c.group_of-group.ensures in
    let k = ranked_in c.args.shown.size c.args.places c.args.before in (
      one_more c.loop-round.invariant.0 c.loop-round-test.true (omega (arith, c.put_round-end.auto))
          (rw (round_is c.args.shown c.args.best c.args.places c.args.before c.loop-round._round c.loop-round.invariant.1 g) at c.put_round-end.ensures),
      next-round k c.loop-round._round c.loop-round.invariant.1 g,
    )

pub shape_of-out : goal.shape_of-out
shape_of-out c = c.loop-round.invariant.0.same

pub returns : goal.returns
returns c = all_lines c.loop-round.invariant.0 (omega (arith, c.loop-round-test.false))
