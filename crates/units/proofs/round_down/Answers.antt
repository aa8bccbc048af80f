-- `round_down` is the rounded step of the mix. Assumes nothing.
use Rattle.rules.specs.Figure.{rounded}
use Rattle.units.proofs.round_down.Goals as goal

pub over-requires : goal.over-requires
over-requires c = c.requires.unit.some

pub returns : goal.returns
unfolding rounded
returns c = rw (c.over.ensures, c.mix.ensures.mixed)
