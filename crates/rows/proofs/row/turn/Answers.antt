-- `turn` leaves a level for a component of no carry, or climbs, one sum more a turn of its loop. The loop no longer has the rule, so its invariant
use mathlib.Core.Path.{◌≡◌, refl, sym, ◌∙◌}
use native.Mathlib.Omega.{arith}
use native.Mathlib.Numerals.{add-one}
use Rattle.units.specs.Step.{whole}
use Rattle.places.proofs.Cells.{kept-none, written-more}
use Rattle.rows.proofs.Climbs.{Climb, read-place, write-place, climb-steady, climb-made}
use Rattle.rows.proofs.Levels.{spare, level-climb, level-up, level-same}
use Rattle.rows.proofs.row.turn.Goals as goal
use Rattle.rows.proofs.row.turn.Goals.{After-prepare-odds}

pub returns-then-carry-eq0 : goal.returns-then-carry-eq0
returns-then-carry-eq0 c =
    let none = sym c.carry-carry.ensures ∙ c.if-carry-eq0.true in
    record { level = rw add-one (level-same c.requires.0 c.requires.1 none); is = add-one _; kept = kept-none }

pub overflow_sub-reach : goal.overflow_sub-reach
overflow_sub-reach c =
    omega (arith, c.carry-carry.ensures, spare c.requires.0 c.requires.1)

-- where the loop begins
climb : (c : After-prepare-odds)
    →
    let after-min = c.before.before in
    let after-carry = after-min.before.before.before.before in
    let start = after-carry.before.before.before.before in
    let a = start.args in
    Climb (whole a.decimal) a.rule a.survival.now a.weights.now a.s.left a.s.from a.table.now
    c.prepare-odds.result.p.0 c.prepare-odds.result.q.0 after-carry.carry-carry.result after-min.min-width.result
climb c =
    rw (c.min-width.ensures, c.limit.ensures, c.carry-carry.ensures)
    (level-climb c.requires.0 c.requires.1 (record { read = c.prepare-odds.ensures.same ∙ c.chance.ensures; rest = c.prepare-odds.ensures.prepared.rest }))

pub value-works-requires : goal.value-works-requires
value-works-requires c =
    let y = climb ((goal.at.value-works-requires c).After-prepare-odds) in
    rw c.worked.ensures (read-place y c.loop-m-test.true (c.loop-m.invariant _ y) _ (omega arith))

pub value-fails-requires : goal.value-fails-requires
value-fails-requires c =
    let y = climb ((goal.at.value-fails-requires c).After-prepare-odds) in
    rw c.failed.ensures (read-place y c.loop-m-test.true (c.loop-m.invariant _ y) _ (omega arith))

pub overflow_add-to : goal.overflow_add-to
overflow_add-to c =
    omega (arith, (climb ((goal.at.overflow_add-to c).After-prepare-odds)).narrow)

pub step_row-requires : goal.step_row-requires
step_row-requires c =
    let y = climb ((goal.at.step_row-requires c).After-prepare-odds) in
    let works = rw c.worked.ensures at c.value-works.ensures in
    let fails = rw c.failed.ensures at c.value-fails.ensures in
    let steady = climb-steady y c.loop-m-test.true (c.loop-m.invariant _ y) works fails in
    (c.prepare-odds.ensures.prepared, steady.left, steady.right)

pub write-requires : goal.write-requires
write-requires c =
    let y = climb ((goal.at.write-requires c).After-prepare-odds) in
    write-place y c.loop-m-test.true (c.loop-m.invariant _ y)

pub loop-m-preserved : goal.loop-m-preserved
loop-m-preserved c =
    let works = rw c.worked.ensures at c.value-works.ensures in
    let fails = rw c.failed.ensures at c.value-fails.ensures in
    λ rule y. written-more c.write.ensures refl (write-place y c.loop-m-test.true (c.loop-m.invariant rule y)).low
    (climb-made y c.loop-m-test.true (c.loop-m.invariant rule y) works fails c.step_row.ensures) (c.loop-m.invariant rule y)

pub returns : goal.returns
returns c =
    let e : c.loop-m.m ≡ c.min-width.result = omega arith in
    let made = rw (e, c.min-width.ensures, c.limit.ensures, c.carry-carry.ensures) at (c.loop-m.invariant _ (climb ((goal.at.returns c).After-prepare-odds))) in
    record { level = rw (c.carry-carry.ensures, add-one) (level-up c.requires.0 c.requires.1 made); is = add-one _; kept = made.kept }
