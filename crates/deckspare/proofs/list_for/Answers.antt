-- `list_for` meets its contract: a wrong word has failed, and all lines fit. Assumes nothing.
use mathlib.Core.Path.{refl}
use mathlib.Core.Logic.{inr}
use Prim.Native.Nat.{ℕ}
use native.Mathlib.Nat.{le_refl}
use lib.ListN.{length-replicate}
use mir.Syntax.{w32}
use mir.ValLaws.{to_z-of_z}
use Rattle.deckspare.proofs.list_for.Goals as goal

pub returns-then-p-ge-NONE : goal.returns-then-p-ge-NONE
returns-then-p-ge-NONE c =
    let same = to_z-of_z w32 c.tell_number.result (record { sfits = c.tell_number.type_inv }) in
    rw (same, c.tell_number.ensures) record { ends = record { ends = λ input front. inr refl }; status = refl }

pub list_front-end-requires : goal.list_front-end-requires
list_front-end-requires c =
    record { within = c.requires; room = rw (length-replicate {A = ℕ} 446464 0) (le_refl _) }
