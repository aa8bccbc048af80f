-- `verdict::held_from` meets its contract: one count where the window ends by n, two where it runs past n. Assumes nothing.
use mathlib.Core.Path.{◌∙◌}
use Prim.Native.Nat.{◌+◌, ◌-◌}
use native.Mathlib.Omega.{arith}
use Rattle.verdict.proofs.Windows.{one-count, two-counts, few}
use Rattle.verdict.proofs.held_from.Goals as goal

pub ones_in-high-requires : goal.ones_in-high-requires
ones_in-high-requires c = omega arith

pub overflow_add-end : goal.overflow_add-end
overflow_add-end c = omega arith

pub returns-then-end-n : goal.returns-then-end-n
returns-then-end-n c = c.ones_in-high.ensures ∙ one-count c.args.n c.args.a c.args.w c.args.width c.if-end-n.true

pub overflow_sub-end : goal.overflow_sub-end
overflow_sub-end c = omega arith

pub ones_in-requires : goal.ones_in-requires
ones_in-requires c = omega arith

pub overflow_add-result : goal.overflow_add-result
overflow_add-result c =
    omega (
      arith,
      few _ _ c.args.width c.ones_in-high.ensures (omega arith),
      few _ _ (c.args.a + c.args.width - c.args.n) c.ones_in.ensures (omega arith),
    )

pub returns : goal.returns
returns c =
    rw (c.ones_in-high.ensures, c.ones_in.ensures)
    (two-counts c.args.n c.args.a c.args.w c.args.width c.requires.4 c.requires.0 c.requires.2 c.if-end-n.false)
