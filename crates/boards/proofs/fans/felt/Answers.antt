-- `fans::felt` meets its contract: the board of each fan that was passed is in the set. Assumes nothing.
use mathlib.Core.Logic.{inl, inr}
use borrow.Author.Count.{below_more}
use Rattle.boards.proofs.Working.{either}
use Rattle.boards.proofs.fans.felt.Goals as goal

pub loop-board-preserved : goal.loop-board-preserved
loop-board-preserved c =
    let both = either c.loop-board.set c.only-set.result in
    below_more _ c.loop-board.board-index (λ k l some. both _ (inl (c.loop-board.invariant k l some))) (λ some. both _ (inr (c.only-set.ensures some)))
