-- `showing::put_board` meets its contract: the number is the file's. Assumes nothing.
use Rattle.deckshow.proofs.showing.put_board.Goals as goal

pub returns : goal.returns
returns c = rw c.board_survival_at-parts.ensures at c.put_board.ensures
