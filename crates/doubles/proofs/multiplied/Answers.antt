-- `multiplied` loses nothing. Assumes nothing.
use denote.Floats.{passes}
use lib.Ieee.{binary64, fits, of_bits}
use Rattle.doubles.proofs.Exactly.{times}
use Rattle.doubles.proofs.multiplied.Goals as goal

pub returns : goal.returns
unfolding of_bits
returns c = times c.args.x (passes (fits binary64 c.args.x) c.well_formed.0.1) c.requires
