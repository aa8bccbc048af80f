-- `row` meets its contract: an option of the table, or one that it does not have. Assumes nothing.
use lib.ListN.{length}
use native.Mathlib.Nat.{div-mul-le_self}
use native.Mathlib.Omega.{arith}
use mathlib.Core.Path.{sym}
use borrow.Author.Tests.{lt-ltb, le-ltb}
use Rattle.options.proofs.row.Goals as goal

pub waiting-requires : goal.waiting-requires
waiting-requires c = omega (arith, div-mul-le_self (length c.args.table.now) 12, c.if-k-table.true)

pub give-requires : goal.give-requires
give-requires c = (omega (arith, c.if-k-table.true, c.requires.0, div-mul-le_self (length c.args.table.now) 12), c.requires.1)

pub returns-then-k-table : goal.returns-then-k-table
returns-then-k-table c = rw (lt-ltb _ _ c.if-k-table.true, sym c.waiting.ensures) c.give.ensures

pub returns : goal.returns
returns c = rw (le-ltb _ _ c.if-k-table.false) c.decide.ensures
