-- `down` is the step with nothing on its failed side: by P's share, or plain where no share is asked for. Assumes nothing.
use mathlib.Core.Path.{sym, ◌∙◌}
use native.Mathlib.Omega.{arith}
use Rattle.units.proofs.Debts.{must-down}
use Rattle.units.proofs.debt.Shares.down.Goals as goal

pub times-requires : goal.times-requires
times-requires c = omega (arith, c.requires.0.left, c.requires.0.unit.most)

pub returns-then-by_shares : goal.returns-then-by_shares
returns-then-by_shares c =
    c.times.ensures ∙ must-down c.requires.0.unit c.requires.0.left (c.requires.1.of_p.is (sym c.by_shares.ensures ∙ c.if-by_shares.true))
