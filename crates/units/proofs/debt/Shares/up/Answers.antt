-- `up` is the step with nothing on its failed side: what Q's share leaves, or plain where no share is asked for. Assumes nothing.
use mathlib.Core.Path.{sym, ◌∙◌}
use native.Mathlib.Omega.{arith}
use Rattle.units.proofs.Debts.{must-least, must-up}
use Rattle.units.proofs.debt.Shares.up.Goals as goal

pub times-requires : goal.times-requires
times-requires c = omega (arith, c.requires.0.left, c.requires.0.unit.most)

pub overflow_sub-result : goal.overflow_sub-result
overflow_sub-result c =
    rw c.times.ensures (must-least c.requires.0.unit c.requires.0.left c.requires.0.survival (c.requires.1.of_q.is (sym c.by_shares.ensures ∙ c.if-by_shares.true)))

pub returns-then-by_shares : goal.returns-then-by_shares
returns-then-by_shares c =
    rw c.times.ensures (must-up c.requires.0.unit c.requires.0.left c.requires.0.survival (c.requires.1.of_q.is (sym c.by_shares.ensures ∙ c.if-by_shares.true)))
