-- `rate_sets` meets its contract: each set that was passed has its figures at its place, and the boards are combined over all of them. Assumes nothing.
use Prim.Native.Nat.{◌≤◌}
use native.Mathlib.Omega.{arith}
use lib.Bits.{and_le_l}
use Rattle.rules.specs.State.{beside_of}
use Rattle.units.specs.Step.{whole}
use Rattle.units.proofs.Laws.{whole-some}
use Rattle.places.specs.Cells.{Both, Kept}
use Rattle.places.proofs.Cells.{kept-none}
use Rattle.boards.specs.Combining.{figure_out}
use Rattle.boards.proofs.Working.{boarded-behind, ratable-kept, few-sets, sets-none, sets-own, sets_more, sets-combinable, sets-all}
use Rattle.boards.proofs.rate_sets.Goals as goal
use Rattle.boards.proofs.rate_sets.Goals.{At-loop-out, Joined-own-out, then-own-out, else-own-out}

-- at most so many sets
few : (c : At-loop-out) → c.sets_of-sets.result ≤ 16
few c = rw c.sets_of-sets.ensures (few-sets _ c.requires.boarded.few)

pub felt-felt-requires : goal.felt-felt-requires
felt-felt-requires c =
    boarded-behind c.requires.boarded

pub sets_of-sets-requires : goal.sets_of-sets-requires
sets_of-sets-requires c =
    c.requires.boarded.few

pub loop-out-init : goal.loop-out-init
loop-out-init c = sets-none

pub offset_bounds-low-own : goal.offset_bounds-low-own
offset_bounds-low-own c =
    omega (arith, few ((goal.at.offset_bounds-low-own c).At-loop-out), and_le_l c.loop-out.out c.felt-felt.result)

pub bounds-low-own : goal.bounds-low-own
bounds-low-own c =
    omega (arith, few ((goal.at.bounds-low-own c).At-loop-out), and_le_l c.loop-out.out c.felt-felt.result)

pub offset_bounds-high-own : goal.offset_bounds-high-own
offset_bounds-high-own c =
    omega (arith, few ((goal.at.offset_bounds-high-own c).At-loop-out), and_le_l c.loop-out.out c.felt-felt.result)

pub bounds-high-own : goal.bounds-high-own
bounds-high-own c =
    omega (arith, few ((goal.at.bounds-high-own c).At-loop-out), and_le_l c.loop-out.out c.felt-felt.result)

pub rate_set-ends-requires : goal.rate_set-ends-requires
rate_set-ends-requires c =
    record { able = ratable-kept c.loop-out.invariant.kept c.requires.able; placed = boarded-behind c.requires.boarded }

-- the set's figures, by either way, and the table kept
abbrev Done : Joined-own-out → Type 0
Done c =
    let beside = beside_of c.args.rule c.args.weights.now c.args.more.now in
    Both (λ up. figure_out up (whole c.args.decimal) c.args.rule c.args.survival.now beside c.args.boards.now c.loop-out.out) c.if-own-out.ends
    × Kept c.loop-out.table c.if-own-out.table

done : (c : Joined-own-out) → Done c
done c =
    let own = sets-own (whole-some c.args.decimal) c.requires.able c.loop-out.invariant c.felt-felt.ensures in
    elim c.if-own-out.branch [
      | then-own-out w ↦ rw (w.table-is, w.ends-is) (w.rate_set-ends.ensures.figure, w.rate_set-ends.ensures.kept)
      | else-own-out w ↦ rw (w.table-is, w.ends-is) (own w.if-own-out.false, kept-none)
    ]

pub offset_bounds-low-out : goal.offset_bounds-low-out
offset_bounds-low-out c = omega (arith, few ((goal.at.offset_bounds-low-out c).At-loop-out))

pub bounds-low-out : goal.bounds-low-out
bounds-low-out c = omega (arith, few ((goal.at.bounds-low-out c).At-loop-out))

pub offset_bounds-high-out : goal.offset_bounds-high-out
offset_bounds-high-out c = omega (arith, few ((goal.at.offset_bounds-high-out c).At-loop-out))

pub bounds-high-out : goal.bounds-high-out
bounds-high-out c = omega (arith, few ((goal.at.bounds-high-out c).At-loop-out))

pub loop-out-preserved : goal.loop-out-preserved
loop-out-preserved c =
    sets_more (whole-some c.args.decimal) c.requires.able c.loop-out.invariant (omega (arith, few ((goal.at.loop-out-preserved c).At-loop-out))) (done ((goal.at.loop-out-preserved c).Joined-own-out)).0 (done ((goal.at.loop-out-preserved c).Joined-own-out)).1

pub combine-requires : goal.combine-requires
combine-requires c =
    sets-combinable (whole-some c.args.decimal) c.requires.able c.loop-out.invariant c.requires.boarded

pub shape_of-table : goal.shape_of-table
shape_of-table c =
    c.loop-out.invariant.kept.long

pub returns : goal.returns
returns c = record { figure = sets-all (whole-some c.args.decimal) c.requires.able c.loop-out.invariant c.args.switchboards.now (omega (arith, c.sets_of-sets.ensures)) c.combine.ensures; kept = c.loop-out.invariant.kept }
