-- `put_rating` meets its contract, case by case: a range is within the unit. Assumes nothing.
use Rattle.card.proofs.put_rating.Goals as goal

pub put_answer-requires : goal.put_answer-requires
put_answer-requires c =
    record { placed = c.requires.placed; shape = c.requires.shape; within = rw c.in-Range.is at c.requires.within; room = c.requires.room }
