-- `board_fans` meets its contract. Assumes nothing.
use mathlib.Core.Path.{sym, ◌∙◌}
use native.Mathlib.Omega.{arith}
use Rattle.layout.proofs.Versions.{with-boards, without-boards}
use Rattle.layout.proofs.board_fans.Goals as goal

pub returns-then-has_boards : goal.returns-then-has_boards
returns-then-has_boards c =
    (sym (with-boards c.args.version c.args.n 0 (sym c.has_boards.ensures ∙ c.if-has_boards.true)), omega arith)

pub returns : goal.returns
returns c =
    (sym (without-boards c.args.version c.args.n 0 (sym c.has_boards.ensures ∙ c.if-has_boards.false)), omega arith)
