-- `deck::board_at` meets its contract: past the end of the board bytes there is none. Assumes nothing.
use mathlib.Core.Path.{sym, ap, ◌∙◌}
use native.Mathlib.Omega.{arith}
use lib.ListN.{get_or, get_or-eq_default}
use Rattle.deck.proofs.board_at.Goals as goal

pub overflow_cast-result : goal.overflow_cast-result
overflow_cast-result c =
    omega (arith, c.shared_slice_known-then-i-boards-1.given c.args.i)

pub returns-then-i-boards : goal.returns-then-i-boards
returns-then-i-boards c =
    ap (λ bs. get_or bs c.args.i 0) c.boards_in-boards.ensures

pub returns : goal.returns
returns c =
    let none = sym (get_or-eq_default c.boards_in-boards.result.now 0 c.if-i-boards.false) in
    none ∙ ap (λ bs. get_or bs c.args.i 0) c.boards_in-boards.ensures
