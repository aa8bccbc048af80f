-- `verdict::starts_of` meets its contract: the line's starts are n + 1 less the width. Assumes nothing.
use mathlib.Core.Path.{ap}
use Prim.Native.Nat.{◌-◌}
use native.Mathlib.Numerals.{add-one}
use Rattle.verdict.proofs.starts_of.Goals as goal

pub returns : goal.returns
returns c =
    rw c.if-ring.false (ap (λ x. x - c.args.width) (add-one c.args.n))
