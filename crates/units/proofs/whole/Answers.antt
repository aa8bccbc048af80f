-- `whole` meets its contract: each arm is its unit. Assumes nothing.
use Rattle.units.specs.Step.{whole}
use Rattle.units.proofs.whole.Goals as goal

pub returns-then-decimal : goal.returns-then-decimal
unfolding whole
returns-then-decimal c = rw c.if-decimal.true

pub returns-else-decimal : goal.returns-else-decimal
unfolding whole
returns-else-decimal c = rw c.if-decimal.false
