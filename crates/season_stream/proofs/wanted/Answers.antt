-- `wanted` meets its contract: no more than are there, and no more than are asked for. Assumes nothing.
use native.Mathlib.Omega.{arith}
use Rattle.season_stream.proofs.Feeding.{takes-closed, takes-less}
use borrow.Author.Rules.{rules}
use Rattle.season_stream.proofs.wanted.Goals as goal

pub returns-then-before : goal.returns-then-before
returns-then-before c = (c.requires.left_nonzero, omega arith, takes-closed c.args.before c.args.left c.if-before.true)

pub lacks-missing-requires : goal.lacks-missing-requires
lacks-missing-requires c = search rules

pub returns-then-missing-left : goal.returns-then-missing-left
returns-then-missing-left c = search rules

pub returns : goal.returns
returns c =
    (c.requires.left_nonzero, omega arith, takes-less c.args.before c.args.left c.lacks-missing.result c.if-missing-left.false c.lacks-missing.ensures.2)
