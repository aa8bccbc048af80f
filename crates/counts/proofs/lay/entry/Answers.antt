-- `entry` takes the tests of `entry_at` in their order. Assumes nothing.
use native.Mathlib.Omega.{arith}
use borrow.Author.Tests.{eq-eqb, ne_eqb}
use Rattle.counts.specs.Tally.{entry_at}
use Rattle.counts.proofs.lay.entry.Goals as goal

pub total-requires : goal.total-requires
unfolding entry_at
total-requires c =
    record {
      small = c.requires.0.two c.if-rule-eq-WEIGHT.true;
      long = omega (arith, c.requires.0.most, c.requires.1, c.requires.0.long);
      fits = rw (eq-eqb _ _ c.if-rule-eq-WEIGHT.true) at (c.requires.0.fits _ c.requires.1);
    }

pub returns-then-rule-eq-WEIGHT : goal.returns-then-rule-eq-WEIGHT
unfolding entry_at
returns-then-rule-eq-WEIGHT c = rw (eq-eqb _ _ c.if-rule-eq-WEIGHT.true) c.total.ensures

pub returns-then-rule-eq-ROW : goal.returns-then-rule-eq-ROW
unfolding entry_at
returns-then-rule-eq-ROW c = rw (ne_eqb _ _ c.if-rule-eq-WEIGHT.false, eq-eqb _ _ c.if-rule-eq-ROW.true) c.line.ensures

pub returns-then-j-n : goal.returns-then-j-n
unfolding entry_at
returns-then-j-n c = rw (ne_eqb _ _ c.if-rule-eq-WEIGHT.false, ne_eqb _ _ c.if-rule-eq-ROW.false, eq-eqb _ _ c.if-j-n.true)

pub around-requires : goal.around-requires
unfolding entry_at
around-requires c =
    record {
      most = omega (arith, c.requires.0.most, c.requires.1);
      row = omega arith;
      long = omega (arith, c.requires.0.most, c.requires.0.long);
      fits = rw c.between.ensures
          (rw (ne_eqb _ _ c.if-rule-eq-WEIGHT.false, ne_eqb _ _ c.if-rule-eq-ROW.false, ne_eqb _ _ c.if-j-n.false) at (c.requires.0.fits _ c.requires.1));
    }

pub returns : goal.returns
unfolding entry_at
returns c =
    rw (ne_eqb _ _ c.if-rule-eq-WEIGHT.false, ne_eqb _ _ c.if-rule-eq-ROW.false, ne_eqb _ _ c.if-j-n.false, ← c.between.ensures)
    c.around.ensures
