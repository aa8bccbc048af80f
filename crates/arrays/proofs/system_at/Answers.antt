-- `system_at` meets its contract, number by number. Assumes nothing.
use Rattle.rules.specs.File.{system_at}
use Rattle.arrays.proofs.system_at.Goals as goal

pub returns : goal.returns
unfolding system_at
returns c =
    λ x.
    record {
      rule = record { kind = c.number2-kind.ensures x; first = c.number2-first.ensures x; second = c.number2-second.ensures x };
      a = c.number2-a.ensures x;
      b = c.number2-b.ensures x;
    }
