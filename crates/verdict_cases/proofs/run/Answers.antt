-- `verdict_cases::run` meets its contract: the next case stands within the file, and the lines so far within the buffer. Assumes nothing.
use mathlib.Core.Path.{refl}
use native.Mathlib.Omega.{arith}
use Rattle.casefile.proofs.Run.{case-passed, run-written}
use Rattle.verdict_cases.proofs.run.Goals as goal

pub returns-then-whole-lt1 : goal.returns-then-whole-lt1
returns-then-whole-lt1 c = (omega arith, refl)

pub loop-init : goal.loop-init
loop-init c = record { place = omega arith; kept = refl; within = omega arith }

pub shape_of-out-then-size-lt-HEAD : goal.shape_of-out-then-size-lt-HEAD
shape_of-out-then-size-lt-HEAD c = c.loop.invariant.kept

pub returns-then-size-lt-HEAD : goal.returns-then-size-lt-HEAD
returns-then-size-lt-HEAD c = run-written c.loop.invariant

pub shape_of-out-then-list-lt1 : goal.shape_of-out-then-list-lt1
shape_of-out-then-list-lt1 c =
    c.loop.invariant.kept

pub returns-then-list-lt1 : goal.returns-then-list-lt1
returns-then-list-lt1 c =
    run-written c.loop.invariant

pub judged-requires : goal.judged-requires
judged-requires c = omega (arith, c.list_size-list.ensures.ends (omega arith))

pub overflow_add-at-in-loop-2 : goal.overflow_add-at-in-loop-2
overflow_add-at-in-loop-2 c =
    omega (arith, c.list_size-list.ensures.ends (omega arith), c.well_formed.0.0)

pub loop-preserved : goal.loop-preserved
loop-preserved c =
    let ends = c.list_size-list.ensures.ends (omega arith) in
    case-passed c.loop.invariant (omega (arith, ends)) (omega arith) (omega arith)

pub shape_of-out : goal.shape_of-out
shape_of-out c = c.loop.invariant.kept

pub returns : goal.returns
returns c = run-written c.loop.invariant
