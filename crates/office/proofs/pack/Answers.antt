-- `office::pack` meets its contract: a refusal's number stays below 2^32. Assumes nothing.
use native.Mathlib.Omega.{arith}
use borrow.Author.Rules.{rules}
use Rattle.office.proofs.pack.Goals as goal

pub refused-requires : goal.refused-requires
refused-requires c = omega (arith, rw c.in-Refused.is at c.requires)

pub returns-in-Refused : goal.returns-in-Refused
returns-in-Refused c = rw c.in-Refused.is c.refused.ensures
