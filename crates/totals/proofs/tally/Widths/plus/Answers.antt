-- `Widths::plus` meets its contract: each sum grows by the width in its own unit. Assumes nothing.
use Prim.Native.Nat.{◌+◌}
use borrow.Author.Rules.{rules}
use Rattle.totals.proofs.tally.Widths.plus.Goals as goal

pub returns : goal.returns
returns c =
    λ i. record { binary = c.args.self.binary + c.width_in.ensures.0 i; decimal = c.args.self.decimal + c.width_in-2.ensures.0 i }
