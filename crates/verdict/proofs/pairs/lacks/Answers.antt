-- `verdict::pairs::lacks` meets its contract: where the window would run past n no window starts, else what does not hold a failed one works. Assumes
-- nothing.
use Prim.Native.Nat.{suc, ◌-◌}
use native.Mathlib.Omega.{arith}
use borrow.Author.Tests.{lt-ltb, le-ltb}
use Rattle.rules.specs.State.{window}
use Rattle.rules.proofs.Windows.{held-le}
use Rattle.verdict.proofs.InRange.{head-good}
use Rattle.verdict.proofs.pairs.lacks.Goals as goal

pub overflow_add-a : goal.overflow_add-a
overflow_add-a c = let g = head-good c.requires in omega (arith, g.short, c.requires.start, c.requires.judgeable.size)

pub returns-then-n-a : goal.returns-then-n-a
returns-then-n-a c = rw (le-ltb c.args.a (suc c.args.n - c.args.r) (omega (arith, c.if-n-a.true)))

pub held_from-requires : goal.held_from-requires
held_from-requires c =
    let g = head-good c.requires in
    (c.requires.start, omega (arith, g.some, g.order), g.fits, c.requires.judgeable.size, c.requires.judgeable.word)

pub overflow_sub-result : goal.overflow_sub-result
overflow_sub-result c =
    rw c.held_from.ensures (held-le (window c.args.n c.args.a c.args.w) c.args.r)

pub returns : goal.returns
returns c =
    let g = head-good c.requires in
    rw (c.held_from.ensures, lt-ltb c.args.a (suc c.args.n - c.args.r) (omega (arith, c.if-n-a.false, g.fits)))
