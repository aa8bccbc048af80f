-- `put_card` meets its contract: what is rated is within the unit. Assumes nothing.
use native.Mathlib.Omega.{arith}
use Rattle.systems.proofs.Figures.{answer-within}
use Rattle.card.proofs.put_card.Goals as goal

pub put_rating-body-requires : goal.put_rating-body-requires
put_rating-body-requires c = record { placed = c.requires; shape = c.shape_of-shape.ensures; within = rw c.rate-rating.ensures (answer-within c.args.file.now c.args.s); room = omega (arith, c.put_title-title.ensures, c.put_title-title.auto) }
