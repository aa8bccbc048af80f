-- `divided` loses nothing in the cast, nor in the division. Assumes nothing.
use Rattle.std.proofs.Common.{ℕ, ◌^◌, ◌≤◌, arith, le→leb}
use lib.Ieee.{of_bits, in_float}
use Rattle.rules.specs.State.{S}
use Rattle.doubles.proofs.Exactly.{over}
use Rattle.doubles.proofs.divided.Goals as goal

small : (x : ℕ) → x ≤ S → x ≤ 2 ^ 53
small x h = omega arith

pub int_to_float-result : goal.int_to_float-result
unfolding in_float
int_to_float-result c = le→leb c.args.x (2 ^ 53) (small c.args.x c.requires)

pub returns : goal.returns
unfolding of_bits
returns c = over c.args.x c.requires
