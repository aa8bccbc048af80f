-- `Refusals::plus` meets its contract: each count grows by its own test. Assumes nothing.
use Prim.Native.Nat.{◌+◌}
use borrow.Author.Rules.{rules}
use Rattle.totals.proofs.tally.Refusals.plus.Goals as goal

pub returns : goal.returns
returns c =
    λ i. record { three = c.args.self.three + c.one_if.ensures.0 i; four = c.args.self.four + c.one_if-2.ensures.0 i; five = c.args.self.five + c.one_if-3.ensures.0 i; six = c.args.self.six + c.one_if-4.ensures.0 i }
