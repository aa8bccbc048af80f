-- `adding::added` meets its contract, thing by thing. Assumes nothing.
use mathlib.Core.Path.{refl}
use borrow.Author.Tests.{eq-eqb, ne_eqb}
use Rattle.grammar.specs.Grammar.{a_version, some_fans, a_board}
use Rattle.grammar.specs.Text.{added}
use native.Mathlib.Omega.{arith}
use Rattle.listing.proofs.Holding.{step-as}
use Rattle.listing.proofs.adding.added.Goals as goal

pub returns-then-thing-eq-A_VERSION : goal.returns-then-thing-eq-A_VERSION
unfolding added
returns-then-thing-eq-A_VERSION c =
    record {
      sane = record { counted = record { fans = c.requires.0.counted.fans; boards = c.requires.0.counted.boards; switchboards = c.requires.0.counted.switchboards; systems = c.requires.0.counted.systems }; room = c.requires.0.room };
      few = omega arith;
      holds = λ s h.
          rw (eq-eqb _ a_version c.if-thing-eq-A_VERSION.true)
          (record { lines = h.lines; version = refl; begun = h.begun; fans = h.fans; boards = h.boards; systems = h.systems; told = h.told });
    }

pub returns-then-thing-eq-SOME_FANS : goal.returns-then-thing-eq-SOME_FANS
unfolding added
returns-then-thing-eq-SOME_FANS c =
    step-as c.added_fans.ensures (λ s. rw (ne_eqb _ a_version c.if-thing-eq-A_VERSION.false, eq-eqb _ some_fans c.if-thing-eq-SOME_FANS.true))

pub returns-then-thing-eq-A_BOARD : goal.returns-then-thing-eq-A_BOARD
unfolding added
returns-then-thing-eq-A_BOARD c =
    step-as c.added_board.ensures (λ s. rw (ne_eqb _ a_version c.if-thing-eq-A_VERSION.false, ne_eqb _ some_fans c.if-thing-eq-SOME_FANS.false, eq-eqb _ a_board c.if-thing-eq-A_BOARD.true))

pub returns : goal.returns
unfolding added
returns c =
    step-as c.added_system.ensures (λ s. rw (ne_eqb _ a_version c.if-thing-eq-A_VERSION.false, ne_eqb _ some_fans c.if-thing-eq-SOME_FANS.false, ne_eqb _ a_board c.if-thing-eq-A_BOARD.false))
