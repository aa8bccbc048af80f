-- `boards_read` meets its contract. Assumes nothing.
use mathlib.Core.Path.{sym, ◌∙◌}
use Rattle.board_lists.proofs.Laws.{read_some, read_none}
use Rattle.board_lists.proofs.boards_read.Goals as goal

pub returns-then-has_boards : goal.returns-then-has_boards
returns-then-has_boards c = sym (read_some c.args.version _ (sym c.has_boards.ensures ∙ c.if-has_boards.true))

pub returns : goal.returns
returns c = sym (read_none c.args.version _ (sym c.has_boards.ensures ∙ c.if-has_boards.false))
