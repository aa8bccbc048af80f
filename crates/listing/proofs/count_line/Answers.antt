-- `count_line` meets its contract: nothing else changes. Assumes nothing.
use mathlib.Core.Path.{refl, ap}
use Prim.Native.Nat.{◌+◌}
use Rattle.listing.proofs.count_line.Goals as goal

pub returns : goal.returns
returns c = record {
  one = refl;
  sane = λ out h. record { counted = record { fans = h.counted.fans; boards = h.counted.boards; switchboards = h.counted.switchboards; systems = h.counted.systems }; room = h.room };
  holds = λ out s h. record {
    lines = ap (λ n. n + 1) h.lines;
    version = h.version;
    begun = refl;
    fans = h.fans;
    boards = h.boards;
    systems = h.systems;
    told = h.told;
  };
}
