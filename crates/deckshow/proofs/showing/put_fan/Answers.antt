-- `showing::put_fan` meets its contract: the three numbers are the file's. Assumes nothing.
use Rattle.deckshow.proofs.showing.put_fan.Goals as goal

pub returns : goal.returns
returns c =
    rw (c.survival_at-parts.ensures, c.weight_at-weight.ensures, c.board_at-board.ensures) at c.put_fan.ensures
