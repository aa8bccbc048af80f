-- `boardless` meets its contract, by its one test. Assumes nothing.
use borrow.Author.Tests.{eq-eqb, ne_eqb}
use Rattle.listing.proofs.boardless.Goals as goal

pub returns-then-version-ne-BOARDS_VERSION : goal.returns-then-version-ne-BOARDS_VERSION
returns-then-version-ne-BOARDS_VERSION c = rw (ne_eqb c.args.version 3 c.if-version-ne-BOARDS_VERSION.true)

pub returns : goal.returns
returns c = rw (eq-eqb c.args.version 3 c.if-version-ne-BOARDS_VERSION.false)
