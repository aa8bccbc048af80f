-- `bit_of` meets its contract: 1 shifted to a place below 64 loses nothing. Assumes nothing.
use native.Mathlib.Omega.{arith}
use lib.Pow.{shl_exact}
use borrow.Author.Rules.{rules}
use Rattle.states.proofs.bit_of.Goals as goal

pub returns-then-failed : goal.returns-then-failed
returns-then-failed c = rw c.if-failed.true (shl_exact {a = 1} 1 c.args.i 64 (omega arith) (omega (arith, c.requires)))

pub returns : goal.returns
returns c = rw c.if-failed.false
