-- `adding::added_system` meets its contract: a system's numbers are stored behind those before it. Assumes nothing.
use Prim.Native.Nat.{◌+◌}
use lib.ListN.{length}
use native.Mathlib.Omega.{arith}
use Rattle.rules.specs.File.{most_systems}
use Rattle.grammar.specs.Text.{many_systems}
use Rattle.listing.proofs.Holding.{none_left, some_left}
use Rattle.listing.proofs.adding.added_system.Goals as goal

pub returns-then-before-gt-SYSTEMS : goal.returns-then-before-gt-SYSTEMS
returns-then-before-gt-SYSTEMS c =
    record {
      sane = c.tell.ensures.sane;
      few = c.tell.ensures.few;
      holds = λ s h. none_left s h (length s.systems + 1) most_systems many_systems _ _ (omega (arith, h.systems.count, c.if-before-gt-SYSTEMS.true)) c.tell.ensures;
    }

pub returns : goal.returns
returns c =
    record {
      sane = record { counted = record { fans = c.requires.0.counted.fans; boards = c.requires.0.counted.boards; switchboards = c.requires.0.counted.switchboards; systems = omega (arith, c.plus-after.ensures.count, c.if-before-gt-SYSTEMS.false) }; room = c.requires.0.room };
      few = omega arith;
      holds = λ s h.
          some_left s h (length s.systems + 1) most_systems many_systems _ _ (omega (arith, h.systems.count, c.if-before-gt-SYSTEMS.false))
          (record {
            lines = h.lines;
            version = h.version;
            begun = h.begun;
            fans = h.fans;
            boards = h.boards;
            systems = c.plus-after.ensures.ruled _ h.systems;
            told = h.told;
          });
    }
