-- `header_length` meets its contract. Assumes nothing.
use mathlib.Core.Path.{sym, ◌∙◌}
use native.Mathlib.Omega.{arith}
use Rattle.layout.proofs.Versions.{header-some, header-none}
use Rattle.layout.proofs.header_length.Goals as goal

pub returns-then-has_boards : goal.returns-then-has_boards
returns-then-has_boards c = (sym (header-some c.args.version (sym c.has_boards.ensures ∙ c.if-has_boards.true)), omega arith)

pub returns : goal.returns
returns c = (sym (header-none c.args.version (sym c.has_boards.ensures ∙ c.if-has_boards.false)), omega arith)
