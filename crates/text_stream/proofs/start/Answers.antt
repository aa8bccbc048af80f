-- `start` meets its contract: nothing was fed. Assumes nothing.
use mathlib.Core.Path.{refl}
use mathlib.Core.List.{List}
use Prim.Native.Nat.{ℕ}
use native.Mathlib.Omega.{arith}
use lib.ListN.{replicate, length-replicate}
use Rattle.typed_lists.specs.Told.{told_room}
use Rattle.grammar.specs.Text.{nothing}
use Rattle.listing.proofs.Handed.{sane-held}
use Rattle.text_stream.proofs.start.Goals as goal

pub returns : goal.returns
returns c =
    let room : List ℕ = replicate told_room 0 in
    record {
      none = (c.none-listing.ensures room (omega (arith, length-replicate {A = ℕ} told_room 0))).lines;
      sane = λ out long. record { listing = sane-held (c.none-listing.ensures out long); within = omega arith };
      holds = λ line out long. record { state = nothing; holds = c.none-listing.ensures out long; within = omega arith; on = λ rest. refl };
    }
