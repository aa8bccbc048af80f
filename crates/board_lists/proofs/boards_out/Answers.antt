-- `boards_out` meets its contract: a version without boards is not refused for their number. Assumes nothing.
use mathlib.Core.Path.{sym, ◌∙◌}
use Rattle.board_lists.proofs.Laws.{boards-some, boards-none}
use Rattle.board_lists.proofs.boards_out.Goals as goal

pub returns-then-has_boards : goal.returns-then-has_boards
returns-then-has_boards c =
    c.outside.ensures ∙ sym (boards-some c.args.version c.args.g (sym c.has_boards.ensures ∙ c.if-has_boards.true))

pub returns : goal.returns
returns c = sym (boards-none c.args.version c.args.g (sym c.has_boards.ensures ∙ c.if-has_boards.false))
