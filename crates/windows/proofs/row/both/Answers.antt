-- `both` reads what follows, and writes the two steps; an older one that is dead gets none. What is read is gathered once, where both ways of failing are known. Assumes
use mathlib.Core.Path.{ap}
use mathlib.Core.Bool.{Bool, cond, ◌||◌}
use Prim.Native.Nat.{◌+◌, ◌*◌}
use native.Mathlib.Omega.{arith}
use Rattle.places.specs.declared.Ends.{Ends}
use Rattle.places.specs.Cells.{Both, cell_at}
use Rattle.places.proofs.Cells.{both-as, side-near}
use Rattle.windows.proofs.Working.{works-place, fails-place, may, young-place, older-place, ready-steady, stepped, laid-alone, laid}
use Rattle.windows.proofs.row.both.Goals as goal
use Rattle.windows.proofs.row.both.Goals.{After-failing-fails_older}

-- nothing.
-- what is read: where the component works, where it fails, and where it fails of the older one
abbrev Follows : After-failing-fails_older → Bool → Ends → Type 0
Follows c must e =
    Both (λ up. cond must 0 (cell_at c.args.table.now up (c.args.from + (2 * c.args.x + 1)))) e

works : (c : After-failing-fails_older) → Both (λ up. cell_at c.args.table.now up (c.args.from + 2 * c.args.x)) c.read_small-works.result
works c =
    both-as (λ up. ap (λ m. cell_at c.args.table.now up (c.args.from + m.bits)) c.worked.ensures) c.read_small-works.ensures

after-failed : (c : After-failing-fails_older) (must : Bool) {e : Ends}
    → Both (λ up. cond must 0 (cell_at c.args.table.now up (c.args.from + c.failed.result.bits))) e → Follows c must e
after-failed c must =
    both-as (λ up. ap (λ m. cond must 0 (cell_at c.args.table.now up (c.args.from + m.bits))) c.failed.ensures)

fails : (c : After-failing-fails_older) → Follows c c.args.must c.failing-fails.result
fails c = after-failed c c.args.must c.failing-fails.ensures

fails-older : (c : After-failing-fails_older) → Follows c (c.args.must || c.args.worse) c.failing-fails_older.result
fails-older c = after-failed c (c.args.must || c.args.worse) c.failing-fails_older.ensures

pub overflow_sub-to : goal.overflow_sub-to
overflow_sub-to c = omega (arith, side-near c.requires.side)

pub overflow_add-from : goal.overflow_add-from
overflow_add-from c =
    rw c.worked.ensures (omega (arith, side-near c.requires.side, c.requires.most, c.requires.young))

pub read_small-works-requires : goal.read_small-works-requires
read_small-works-requires c = rw c.worked.ensures (works-place c.requires)

pub overflow_add-after : goal.overflow_add-after
overflow_add-after c =
    rw c.failed.ensures (omega (arith, side-near c.requires.side, c.requires.most, c.requires.young))

pub failing-fails-requires : goal.failing-fails-requires
failing-fails-requires c e =
    rw c.failed.ensures (fails-place c.requires e)

pub failing-fails_older-requires : goal.failing-fails_older-requires
failing-fails_older-requires c e =
    rw c.failed.ensures (fails-place c.requires (may c.requires e))

pub step-requires : goal.step-requires
step-requires c =
    ready-steady c.requires (works ((goal.at.step-requires c).After-failing-fails_older)) _ (λ e. e) (fails ((goal.at.step-requires c).After-failing-fails_older)) c.failure-q.ensures

pub write-requires : goal.write-requires
write-requires c = young-place c.requires

pub returns-then-must-worse : goal.returns-then-must-worse
returns-then-must-worse c =
    laid-alone c.requires c.if-must-worse.true (stepped c.requires (works ((goal.at.returns-then-must-worse c).After-failing-fails_older)) _ (λ e. e) (fails ((goal.at.returns-then-must-worse c).After-failing-fails_older)) c.step.ensures) c.write.ensures

pub older-requires : goal.older-requires
older-requires c =
    (omega (arith, c.requires.most, c.requires.young), omega (arith, c.requires.most))

pub overflow_add-to-2 : goal.overflow_add-to-2
overflow_add-to-2 c =
    rw c.older.ensures (omega (arith, c.requires.most, c.requires.young))

pub step-requires-2 : goal.step-requires-2
step-requires-2 c =
    ready-steady c.requires (works ((goal.at.step-requires-2 c).After-failing-fails_older)) _ (may c.requires) (fails-older ((goal.at.step-requires-2 c).After-failing-fails_older)) c.failure-q.ensures

pub write-requires-2 : goal.write-requires-2
write-requires-2 c =
    rw c.older.ensures (older-place c.requires c.write.ensures)

pub returns : goal.returns
returns c =
    laid c.requires (stepped c.requires (works ((goal.at.returns c).After-failing-fails_older)) _ (λ e. e) (fails ((goal.at.returns c).After-failing-fails_older)) c.step.ensures) (stepped c.requires (works ((goal.at.returns c).After-failing-fails_older)) _ (may c.requires) (fails-older ((goal.at.returns c).After-failing-fails_older)) c.step-2.ensures)
    c.write.ensures (rw c.older.ensures at c.write-2.ensures)
