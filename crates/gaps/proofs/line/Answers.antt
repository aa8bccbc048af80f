-- `line` settles, then reaches all components past as many clean ones as can count. Assumes nothing.
use mathlib.Core.Path.{ap}
use Rattle.places.proofs.Cells.{kept_trans}
use Rattle.gaps.proofs.Reaching.{reached-on}
use Rattle.gaps.proofs.Whole.{start-begun, line-is}
use Rattle.gaps.proofs.line.Goals as goal

pub begin-known-requires : goal.begin-known-requires
begin-known-requires c = start-begun c.requires c.start.ensures c.settle.ensures.settled c.settle.ensures.kept

pub returns : goal.returns
returns c =
    let z = rw (ap (λ m. m.clean) c.start.ensures) at (reached-on c.begin-known.ensures c.reach.ensures) in
    record { figure = line-is z c.read.ensures; kept = kept_trans c.settle.ensures.kept z.kept }
