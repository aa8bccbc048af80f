-- `none` meets its contract: no list has an entry, and no fault is told. Assumes nothing.
use mathlib.Core.Path.{refl}
use native.Mathlib.Omega.{arith}
use Rattle.faults.specs.Told.{faults_text}
use Rattle.listing.proofs.none.Goals as goal

pub returns : goal.returns
unfolding faults_text
returns c = λ out room. record {
  lines = refl;
  version = refl;
  begun = refl;
  fans = c.no_fans-fans.ensures;
  boards = record { long = refl; few = omega arith; counted = refl; stands = refl };
  systems = c.no_systems-systems.ensures;
  told = record { count = refl; text = refl; room = room };
}
