-- `below` goes down the list while its last one is too high. Assumes nothing.
use mathlib.Core.Path.{◌≡◌}
use Prim.Native.Nat.{◌+◌, ◌-◌}
use native.Mathlib.Omega.{arith}
use Rattle.windows.proofs.groups.below.Goals as goal

pub loop-c-init : goal.loop-c-init
loop-c-init c = λ l. absurd (omega arith)

pub returns-then-table-at : goal.returns-then-table-at
returns-then-table-at c =
    let last : c.args.at + 1 + (c.loop-c.c - 1) ≡ c.args.at + (c.loop-c.c - 1 + 1) = omega arith in
    let next : c.loop-c.c - 1 + 1 ≡ c.loop-c.c = omega arith in
    record { most = omega arith; last = λ some. rw last at c.if-table-at.true; next = λ l. rw next (c.loop-c.invariant (omega arith)) }

pub loop-c-preserved : goal.loop-c-preserved
loop-c-preserved c = λ l. c.if-table-at.false

pub returns : goal.returns
returns c =
    let e : c.loop-c.c ≡ 0 = omega arith in
    record { most = omega arith; last = λ some. absurd (omega arith); next = λ l. rw e at (c.loop-c.invariant (omega arith)) }
