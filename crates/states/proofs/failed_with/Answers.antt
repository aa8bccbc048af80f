-- `failed_with` meets its contract, by the board first. Assumes nothing.
use borrow.Author.Tests.{eq-eqb, ne_eqb}
use borrow.Author.Rules.{rules}
use Rattle.states.proofs.failed_with.Goals as goal

pub returns-then-own-board : goal.returns-then-own-board
returns-then-own-board c = rw (eq-eqb _ _ c.if-own-board.true)

pub returns : goal.returns
returns c = rw (ne_eqb _ _ c.if-own-board.false)
