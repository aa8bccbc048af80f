-- `deck::boards_given` meets its contract: a header that is whole has g where the version has boards. Assumes nothing.
use mathlib.Core.Path.{sym, ap, ◌∙◌}
use native.Mathlib.Omega.{arith}
use Rattle.rules.specs.Boards.{has_boards}
use Rattle.rules.specs.File.{number_at, board_count_field, version_in}
use Rattle.layout.proofs.Numbers.{spelled-fits}
use Rattle.layout.proofs.Versions.{header-some, with-boards, without-boards}
use Rattle.deck.proofs.boards_given.Goals as goal

pub number4-requires : goal.number4-requires
number4-requires c =
    let has = ap has_boards (sym c.requires.is) ∙ sym c.has_boards.ensures ∙ c.if-has_boards.true in
    omega (arith, c.requires.long, header-some (version_in c.args.bytes.now) has)

pub returns-then-has_boards : goal.returns-then-has_boards
returns-then-has_boards c =
    let has = ap has_boards (sym c.requires.is) ∙ sym c.has_boards.ensures ∙ c.if-has_boards.true in (
      c.number4.ensures ∙ sym (with-boards (version_in c.args.bytes.now) (number_at 4 c.args.bytes.now board_count_field) 0 has),
      spelled-fits 4 _ _ c.number4.ensures (λ i. (c.shared_slice_known-1.given i).fits),
    )

pub returns : goal.returns
returns c =
    let none = ap has_boards (sym c.requires.is) ∙ sym c.has_boards.ensures ∙ c.if-has_boards.false in
    (sym (without-boards (version_in c.args.bytes.now) (number_at 4 c.args.bytes.now board_count_field) 0 none), omega arith)
