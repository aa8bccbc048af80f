-- `misplaced` meets its contract: the board list's length, then the rated fans' numbers. Assumes nothing.
use mathlib.Core.Path.{sym, ◌∙◌}
use Prim.Native.Nat.{◌-◌}
use native.Mathlib.Omega.{arith}
use lib.ListN.{take, drop}
use Rattle.board_lists.proofs.Laws.{misplaced-length, misplaced-above, misplaced-none}
use Rattle.board_lists.proofs.misplaced.Goals as goal

pub returns-then-boards-n : goal.returns-then-boards-n
returns-then-boards-n c =
    sym (misplaced-length c.args.version c.args.g c.args.n c.args.boards.now (take (c.args.upto - c.args.from) (drop c.args.from c.args.boards.now))
    (sym c.has_boards.ensures ∙ c.if-has_boards.true) c.if-boards-n.true)

pub slice_bounds-some_above-count : goal.slice_bounds-some_above-count
slice_bounds-some_above-count c = omega (arith, c.requires)

pub returns-then-has_boards : goal.returns-then-has_boards
returns-then-has_boards c =
    let has = sym c.has_boards.ensures ∙ c.if-has_boards.true in
    c.some_above.ensures
    ∙ sym (misplaced-above c.args.version c.args.g c.args.n c.args.boards.now (take (c.args.upto - c.args.from) (drop c.args.from c.args.boards.now)) has c.if-boards-n.false)

pub returns : goal.returns
returns c =
    sym (misplaced-none c.args.version c.args.g c.args.n c.args.boards.now (take (c.args.upto - c.args.from) (drop c.args.from c.args.boards.now))
    (sym c.has_boards.ensures ∙ c.if-has_boards.false))
