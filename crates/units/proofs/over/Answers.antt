-- `over` meets its contract: each arm divides by the unit. Assumes nothing.
use Rattle.units.proofs.over.Goals as goal

pub returns-then-unit-eq-DECIMAL : goal.returns-then-unit-eq-DECIMAL
returns-then-unit-eq-DECIMAL c = rw c.if-unit-eq-DECIMAL.true

pub returns-then-unit-eq-BINARY : goal.returns-then-unit-eq-BINARY
returns-then-unit-eq-BINARY c = rw c.if-unit-eq-BINARY.true
