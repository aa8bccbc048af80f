-- `deck::head_given` meets its contract, number by number. Assumes nothing.
use Prim.Native.Nat.{ℕ, ◌<◌}
use native.Mathlib.Omega.{arith}
use lib.ListN.{get_or}
use Rattle.rules.specs.File.{version_in}
use Rattle.layout.proofs.Numbers.{spelled-fits}
use Rattle.layout.proofs.Versions.{header-bounds}
use Rattle.deck.proofs.head_given.Goals as goal

pub number2-fans-requires : goal.number2-fans-requires
number2-fans-requires c = omega (arith, header-bounds (version_in c.args.bytes.now))

pub number2-systems-requires : goal.number2-systems-requires
number2-systems-requires c = omega (arith, header-bounds (version_in c.args.bytes.now))

pub returns : goal.returns
returns c =
    let byte : (i : ℕ) → get_or c.args.bytes.now i 0 < 256 = λ i. (c.shared_slice_known-1.given i).fits in
    record {
      long = c.requires.long;
      says = record {
        version = c.requires.is;
        fans = c.number2-fans.ensures;
        systems = c.number2-systems.ensures;
        boards = c.boards_given-boards.ensures.0;
      };
      small = record {
        fans = spelled-fits 2 _ _ c.number2-fans.ensures byte;
        systems = spelled-fits 2 _ _ c.number2-systems.ensures byte;
        boards = c.boards_given-boards.ensures.1;
      };
    }
