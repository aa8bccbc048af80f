-- `wanted::line_at` meets its contract: byte by byte, what is left has the line. Assumes nothing.
use native.Mathlib.Omega.{arith}
use Rattle.faults.proofs.Lines.{first-line, more, next, found, last_line, no_line}
use Rattle.faults.proofs.wanted.line_at.Goals as goal
use Rattle.faults.proofs.wanted.line_at.Goals.{then-byte-eq-NEWLINE+else-line-k, else-byte-eq-NEWLINE}

pub loop-i-init : goal.loop-i-init
loop-i-init c = first-line _ _

pub returns-then-line-k : goal.returns-then-line-k
returns-then-line-k c =
    found _ _ c.loop-i.invariant c.loop-i-test.true c.if-byte-eq-NEWLINE.true c.if-line-k.true

pub overflow_add-line : goal.overflow_add-line
overflow_add-line c =
    omega (arith, c.loop-i.invariant.passed, c.ranges.k.fits)

pub loop-i-preserved : goal.loop-i-preserved
loop-i-preserved c = elim c.if-byte-eq-NEWLINE.branch [
  | then-byte-eq-NEWLINE+else-line-k w ↦ rw (w.line-is, w.from-is) (next _ _ c.loop-i.invariant c.loop-i-test.true w.if-byte-eq-NEWLINE.true w.if-line-k.false)
  | else-byte-eq-NEWLINE w ↦ rw (w.line-is, w.from-is) (more _ _ c.loop-i.invariant c.loop-i-test.true w.if-byte-eq-NEWLINE.false)
]

pub returns-then-line-k-2 : goal.returns-then-line-k-2
returns-then-line-k-2 c = no_line _ _ c.loop-i.invariant c.loop-i-test.false c.if-line-k-2.true

pub returns-else-line-k-2 : goal.returns-else-line-k-2
returns-else-line-k-2 c = last_line _ _ c.loop-i.invariant c.loop-i-test.false c.if-line-k-2.false
