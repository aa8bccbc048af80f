-- `judge` meets its contract: a wrong word has failed, and all lines fit. Assumes nothing.
use mathlib.Core.Path.{refl}
use mathlib.Core.Logic.{inr}
use native.Mathlib.Omega.{arith}
use mir.Syntax.{w32}
use mir.ValLaws.{to_z-of_z}
use Rattle.deckstate.proofs.judge.Goals as goal

pub returns-then-said-ne0 : goal.returns-then-said-ne0
returns-then-said-ne0 c =
    let same = to_z-of_z w32 c.tell_wrong.result (record { sfits = c.tell_wrong.type_inv }) in
    rw (same, c.tell_wrong.ensures) record { ends = record { ends = λ input front. inr refl }; status = refl }

pub state_front-end-requires : goal.state_front-end-requires
state_front-end-requires c =
    record { within = c.requires; opens = rw c.front_of-file.ensures.is at c.open-opened.ensures; room = omega arith }
