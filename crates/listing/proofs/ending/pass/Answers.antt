-- `ending::pass` meets its contract, test by test. Assumes nothing.
use Rattle.typed_lists.proofs.Telling.{told_none}
use Rattle.listing.proofs.Passing.{placed, told-already, not_yet}
use Rattle.listing.proofs.ending.pass.Goals as goal

pub returns-then-board-g : goal.returns-then-board-g
returns-then-board-g c =
    let e = placed c.args.g c.args.before.line c.args.line c.args.board c.if-board-g.true in
    record { told = rw e (told_none c.requires); line = rw e }

pub returns-then-line-before : goal.returns-then-line-before
returns-then-line-before c =
    let e = told-already c.args.g c.args.before.line c.args.line c.args.board c.if-board-g.false c.if-line-before.true in
    record { told = rw e (told_none c.requires); line = rw e }

pub returns : goal.returns
returns c =
    let e = not_yet c.args.g c.args.before.line c.args.line c.args.board c.if-board-g.false c.if-line-before.false in
    record { told = rw e c.tell_board-after.ensures; line = rw e }
