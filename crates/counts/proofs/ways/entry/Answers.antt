-- `entry` takes the tests of `entry_of` in their order. Assumes nothing.
use native.Mathlib.Omega.{arith}
use borrow.Author.Tests.{le-leb, lt-leb, eq-eqb, ne_eqb}
use Rattle.counts.specs.Ways.{entry_of}
use Rattle.counts.proofs.ways.entry.Goals as goal

pub returns-then-fails_at : goal.returns-then-fails_at
unfolding entry_of
returns-then-fails_at c = rw (le-leb _ _ c.if-rule-le-BETWEEN.true, ← c.fails_at.ensures, c.if-fails_at.true)

pub returns-then-rule-le-BETWEEN : goal.returns-then-rule-le-BETWEEN
unfolding entry_of
returns-then-rule-le-BETWEEN c = rw (le-leb _ _ c.if-rule-le-BETWEEN.true, ← c.fails_at.ensures, c.if-fails_at.false) c.ways.ensures

pub overflow_sub-owed : goal.overflow_sub-owed
overflow_sub-owed c = c.requires.0.some c.if-rule-le-BETWEEN.false

pub apart-requires : goal.apart-requires
apart-requires c =
    record { owes = omega (arith, c.requires.0.some c.if-rule-le-BETWEEN.false, c.requires.0.small c.if-rule-le-BETWEEN.false); size = c.requires.0.size; few = omega (arith, c.requires.0.size, c.requires.1); folded = c.requires.2 }

pub returns-then-rule-eq-NEAR : goal.returns-then-rule-eq-NEAR
unfolding entry_of
returns-then-rule-eq-NEAR c = rw (lt-leb _ _ c.if-rule-le-BETWEEN.false, eq-eqb _ _ c.if-rule-eq-NEAR.true) c.apart.ensures

pub ring-requires : goal.ring-requires
ring-requires c =
    let some = c.requires.0.some c.if-rule-le-BETWEEN.false in (
      record { owes = omega (arith, some, c.requires.0.small c.if-rule-le-BETWEEN.false); size = c.requires.0.size; few = omega (arith, c.requires.0.size, c.requires.1); folded = c.requires.2 },
      omega (arith, some, c.requires.0.ring c.if-rule-le-BETWEEN.false c.if-rule-eq-NEAR.false),
    )

pub returns : goal.returns
unfolding entry_of
returns c = rw (lt-leb _ _ c.if-rule-le-BETWEEN.false, ne_eqb _ _ c.if-rule-eq-NEAR.false) c.ring.ensures
