-- `figures_cases::run` meets its contract: the next case stands within the file, and the lines so far within the buffer. Assumes nothing.
use mathlib.Core.Path.{refl}
use native.Mathlib.Omega.{arith}
use borrow.Author.Tests.{not-false}
use Rattle.casefile.proofs.Run.{case-passed, run-written}
use Rattle.figures_cases.proofs.run.Goals as goal

pub returns-then-whole-lt1 : goal.returns-then-whole-lt1
returns-then-whole-lt1 c = (omega arith, refl)

pub loop-init : goal.loop-init
loop-init c = record { place = omega arith; kept = refl; within = omega arith }

pub shape_of-out-then-not-s : goal.shape_of-out-then-not-s
shape_of-out-then-not-s c = c.loop.invariant.kept

pub returns-then-not-s : goal.returns-then-not-s
returns-then-not-s c = run-written c.loop.invariant

pub run_case-end-requires : goal.run_case-end-requires
run_case-end-requires c =
    record { case = c.sizes_at-s.ensures (not-false _ c.if-not-s.false); within = c.loop.invariant.within }

pub overflow_add-at : goal.overflow_add-at
overflow_add-at c =
    omega (arith, c.sizes_at-s.ensures (not-false _ c.if-not-s.false), c.well_formed.0.0)

pub loop-preserved : goal.loop-preserved
loop-preserved c =
    let whole = c.sizes_at-s.ensures (not-false _ c.if-not-s.false) in
    case-passed c.loop.invariant (omega (arith, whole.ends, whole.long)) (omega (arith, c.run_case-end.auto)) c.run_case-end.ensures

pub shape_of-out : goal.shape_of-out
shape_of-out c = c.loop.invariant.kept

pub returns : goal.returns
returns c = run-written c.loop.invariant
