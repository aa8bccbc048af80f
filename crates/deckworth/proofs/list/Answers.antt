-- `list` meets its contract: each buffer has room for half the lines. Assumes nothing.
use Prim.Native.Nat.{ℕ}
use native.Mathlib.Nat.{le_refl}
use lib.ListN.{length-replicate}
use Rattle.deckworth.proofs.list.Goals as goal

pub list_front-ends-requires : goal.list_front-ends-requires
list_front-ends-requires c =
    record { within = c.requires; room = (rw (length-replicate {A = ℕ} 331776 0) (le_refl _), rw (length-replicate {A = ℕ} 331776 0) (le_refl _)) }
