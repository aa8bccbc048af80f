-- `adding::added_board` meets its contract: a board's number is stored behind those before it. Assumes nothing.
use mathlib.Core.Path.{◌∙◌}
use Prim.Native.Nat.{◌+◌}
use lib.ListN.{length, get_or, length-set}
use native.Mathlib.Omega.{arith}
use Rattle.rules.specs.Refusal.{most_boards}
use Rattle.grammar.specs.Text.{many_boards}
use Rattle.grammar.specs.Grammar.{of_parts}
use Rattle.typed_lists.proofs.Storing.{stored_more}
use Rattle.listing.proofs.Holding.{none_left, some_left}
use Rattle.listing.proofs.adding.added_board.Goals as goal

pub returns-then-g-gt-BOARDS : goal.returns-then-g-gt-BOARDS
returns-then-g-gt-BOARDS c =
    record {
      sane = c.tell.ensures.sane;
      few = c.tell.ensures.few;
      holds = λ s h. none_left s h (length s.switchboards + 1) most_boards many_boards _ _ (omega (arith, h.boards.counted, c.if-g-gt-BOARDS.true)) c.tell.ensures;
    }

pub overflow_cast-switchboards : goal.overflow_cast-switchboards
overflow_cast-switchboards c = omega (arith, c.requires.1.small of_parts)

pub returns : goal.returns
returns c =
    let long = length-set c.args.listing.switchboards c.args.listing.boards (get_or c.args.set of_parts 0) in
    record {
      sane = record { counted = record { fans = c.requires.0.counted.fans; boards = omega (arith, c.if-g-gt-BOARDS.false); switchboards = long ∙ c.requires.0.counted.switchboards; systems = c.requires.0.counted.systems }; room = c.requires.0.room };
      few = omega arith;
      holds = λ s h.
          some_left s h (length s.switchboards + 1) most_boards many_boards _ _ (omega (arith, h.boards.counted, c.if-g-gt-BOARDS.false))
          (record {
            lines = h.lines;
            version = h.version;
            begun = h.begun;
            fans = h.fans;
            boards = stored_more h.boards _ (omega (arith, c.if-g-gt-BOARDS.false));
            systems = h.systems;
            told = h.told;
          });
    }
