-- `decide` writes the unit as long as the lead and all that is left stay below k. Assumes nothing.
use mathlib.Core.Path.{◌≡◌, ◌∙◌}
use mathlib.Core.Bool.{Bool, cond}
use Prim.Native.Nat.{ℕ, suc, ◌+◌, ◌<◌}
use native.Mathlib.Omega.{arith}
use borrow.Author.Tests.{lt-ltb}
use Rattle.memory.specs.declared.run.Run.{Run}
use Rattle.memory.specs.Run.{run_works}
use Rattle.places.specs.declared.Ends.{Ends}
use Rattle.places.specs.Cells.{Both}
use Rattle.places.proofs.Cells.{written-more}
use Rattle.runs.specs.Runs.{Free}
use Rattle.runs.proofs.decide.Goals as goal

-- a memory with no run works at the end
all : {u k : ℕ} {m : Run} {works : Bool} {e : Ends} → Free k m → works ≡ run_works k m → Both (λ up. cond works u 0) e → Both (λ up. u) e
all {k = k} {m = m} f is b = let short : m.lead + m.run < k = omega (arith, f.none, f.alive) in rw (is ∙ lt-ltb _ _ short) at b

pub loop-left-preserved : goal.loop-left-preserved
loop-left-preserved c =
    written-more c.write.ensures (omega arith) (omega arith) (all c.requires.free c.works.ensures c.end_value-ends.ensures) c.loop-left.invariant

pub returns-2 : goal.returns-2
returns-2 c =
    let e : c.loop-left.left + 1 ≡ suc c.min-last.result = omega arith in
    let more = written-more c.write.ensures (omega arith) (omega arith) (all c.requires.free c.works.ensures c.end_value-ends.ensures) c.loop-left.invariant in
    record { far = c.min-last.ensures; written = rw (e, c.min-last.ensures) at more }
