-- `system::number_at` meets its contract: behind a list's end there is 0. Assumes nothing.
use mathlib.Core.Path.{sym}
use lib.ListN.{get_or-eq_default}
use Rattle.advice.proofs.system.number_at.Goals as goal

pub returns : goal.returns
returns c = sym (get_or-eq_default c.args.numbers.now 0 c.if-i-numbers.false)
