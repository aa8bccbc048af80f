-- `write` stores a pair, low then high. Assumes nothing.
use Rattle.places.proofs.Cells.{put-set}
use Rattle.places.proofs.write.Goals as goal

pub returns : goal.returns
returns c = put-set _ _ _ c.requires
