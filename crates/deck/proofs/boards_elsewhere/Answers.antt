-- `deck::boards_elsewhere` meets its contract: a whole header has the offset where the version has boards. Assumes nothing.
use mathlib.Core.Path.{sym, ap, ap₂, ◌∙◌}
use mathlib.Core.Bool.{not}
use native.Mathlib.Omega.{arith}
use lib.Dec.{eqb}
use Rattle.rules.specs.Boards.{has_boards}
use Rattle.rules.specs.File.{number_at, boards_field, boards_offset, version_in}
use Rattle.layout.proofs.Versions.{header-some}
use Rattle.deck.proofs.Checks.{elsewhere-some, elsewhere-none}
use Rattle.deck.proofs.boards_elsewhere.Goals as goal

pub elsewhere-requires : goal.elsewhere-requires
elsewhere-requires c =
    let has = ap has_boards (sym c.requires.says.version) ∙ sym c.has_boards.ensures ∙ c.if-has_boards.true in
    omega (arith, c.requires.long, header-some (version_in c.args.bytes.now) has)

pub returns-then-has_boards : goal.returns-then-has_boards
returns-then-has_boards c =
    let has = ap has_boards (sym c.requires.says.version) ∙ sym c.has_boards.ensures ∙ c.if-has_boards.true in
    let from = c.boards_offset-from.ensures.0 ∙ ap₂ boards_offset c.requires.says.version c.requires.says.fans in
    c.elsewhere.ensures ∙ ap (λ x. not (eqb (number_at 4 c.args.bytes.now boards_field) x)) from ∙ elsewhere-some c.args.bytes.now has

pub returns : goal.returns
returns c =
    let none = ap has_boards (sym c.requires.says.version) ∙ sym c.has_boards.ensures ∙ c.if-has_boards.false in
    sym (elsewhere-none c.args.bytes.now none)
