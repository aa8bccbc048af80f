-- `lines::line_end` meets its contract: what is passed is within one line. Assumes nothing.
use mathlib.Core.Path.{◌≡◌, ap}
use Prim.Native.Nat.{◌-◌}
use native.Mathlib.Omega.{arith}
use lib.ListN.{length, take, drop}
use Rattle.listing.proofs.Ends.{one_none, one_on}
use Rattle.listing.proofs.lines.line_end.Goals as goal

pub loop-i-init : goal.loop-i-init
loop-i-init c =
    let none : c.args.at - c.args.at ≡ 0 = omega arith in
    one_none (ap (λ n. take n (drop c.args.at c.args.text.now)) none)

pub returns-then-text-i-eq-NEWLINE : goal.returns-then-text-i-eq-NEWLINE
returns-then-text-i-eq-NEWLINE c =
    record { low = omega arith; high = omega arith; one = c.loop-i.invariant; ends = λ l. c.if-text-i-eq-NEWLINE.true }

pub loop-i-preserved : goal.loop-i-preserved
loop-i-preserved c =
    one_on c.args.text.now c.args.at c.loop-i.i (omega arith) c.loop-i-test.true c.loop-i.invariant c.if-text-i-eq-NEWLINE.false

pub returns : goal.returns
returns c =
    let e : c.loop-i.i ≡ length c.args.text.now = omega (arith, c.loop-i-test.false) in
    record { low = omega arith; high = omega arith; one = rw e at c.loop-i.invariant; ends = λ l. absurd (omega arith) }
