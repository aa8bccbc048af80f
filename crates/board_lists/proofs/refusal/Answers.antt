-- `refusal` meets its contract: neither in a version without boards; else 20, then 21. Assumes nothing.
use mathlib.Core.Path.{sym, ◌∙◌}
use mathlib.Core.List.{[]}
use Prim.Native.Nat.{◌-◌}
use lib.ListN.{take, drop}
use Rattle.rules.proofs.Accepted.{first-of, first-after}
use Rattle.board_lists.specs.Refused.{boards_refusal}
use Rattle.board_lists.proofs.Laws.{refused_none, none_left}
use Rattle.board_lists.proofs.refusal.Goals as goal

pub returns-then-not-has_boards : goal.returns-then-not-has_boards
returns-then-not-has_boards c =
    sym (refused_none c.args.version c.args.g c.args.n c.args.boards.now (take (c.args.upto - c.args.from) (drop c.args.from c.args.boards.now))
    (sym c.has_boards.ensures ∙ c.if-not-has_boards.true))

pub returns-then-boards_out : goal.returns-then-boards_out
unfolding boards_refusal
returns-then-boards_out c = sym (first-of 20 _ _ (sym c.boards_out.ensures ∙ c.if-boards_out.true))

pub returns-then-misplaced : goal.returns-then-misplaced
unfolding boards_refusal
returns-then-misplaced c = sym (first-after 20 _ _ (sym c.boards_out.ensures ∙ c.if-boards_out.false) ∙ first-of 21 _ _ (sym c.misplaced.ensures ∙ c.if-misplaced.true))

pub returns : goal.returns
unfolding boards_refusal
returns c = sym (first-after 20 _ _ (sym c.boards_out.ensures ∙ c.if-boards_out.false) ∙ first-after 21 _ [] (sym c.misplaced.ensures ∙ c.if-misplaced.false) ∙ none_left)
