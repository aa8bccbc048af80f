-- `adding::added_fans` meets its contract: the fans are as many as the lists are long, and what the line sets fits its slots. Assumes nothing.
use native.Mathlib.Omega.{arith}
use lib.ListN.{length, get_or}
use Prim.Native.Nat.{◌+◌}
use Rattle.rules.specs.File.{most_fans}
use Rattle.grammar.specs.Text.{many_fans}
use Rattle.grammar.specs.Grammar.{of_number, of_parts, of_weight, of_board}
use Rattle.listing.proofs.Holding.{none_left, some_left}
use Rattle.listing.proofs.adding.added_fans.Goals as goal

pub overflow_add-before : goal.overflow_add-before
overflow_add-before c =
    omega (arith, c.requires.0.counted.fans.few, c.requires.1.small of_number)

pub returns-then-before-more : goal.returns-then-before-more
returns-then-before-more c =
    record {
      sane = c.tell.ensures.sane;
      few = c.tell.ensures.few;
      holds = λ s h. none_left s h (length s.survival + get_or c.args.set of_number 0) most_fans many_fans _ _ (omega (arith, h.fans.parts.counted, c.if-before-more.true)) c.tell.ensures;
    }

pub overflow_cast-parts : goal.overflow_cast-parts
overflow_cast-parts c = omega (arith, c.requires.1.small of_parts)

pub overflow_cast-weight : goal.overflow_cast-weight
overflow_cast-weight c = omega (arith, c.requires.1.small of_weight)

pub overflow_cast-board : goal.overflow_cast-board
overflow_cast-board c = omega (arith, c.requires.1.small of_board)

pub returns : goal.returns
returns c =
    record {
      sane = record { counted = record { fans = c.plus-after.ensures.lined c.requires.0.counted.fans; boards = c.requires.0.counted.boards; switchboards = c.requires.0.counted.switchboards; systems = c.requires.0.counted.systems }; room = c.requires.0.room };
      few = omega arith;
      holds = λ s h.
          some_left s h (length s.survival + get_or c.args.set of_number 0) most_fans many_fans _ _ (omega (arith, h.fans.parts.counted, c.if-before-more.false))
          (record {
            lines = h.lines;
            version = h.version;
            begun = h.begun;
            fans = rw h.lines at (c.plus-after.ensures.lists _ _ _ _ h.fans);
            boards = h.boards;
            systems = h.systems;
            told = h.told;
          });
    }
