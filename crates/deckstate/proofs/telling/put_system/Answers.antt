-- `telling::put_system` meets its contract: the system's number and what is said of it fit. Assumes nothing.
use Prim.Native.Nat.{◌+◌}
use native.Mathlib.Omega.{arith}
use Rattle.text.specs.Decimal.{text}
use Rattle.text.proofs.Adding.{named-added, named-reach, added_more}
use Rattle.deckstate.proofs.telling.put_system.Goals as goal

pub put_verdict-requires : goal.put_verdict-requires
put_verdict-requires c =
    let one = named-added (omega (arith, c.requires.room)) c.put_named-end.ensures in
    omega (arith, c.requires.room, c.put_named-end.auto, named-reach (text "system ") (c.args.s + 1) one)

pub returns : goal.returns
returns c =
    let one = named-added (omega (arith, c.requires.room)) c.put_named-end.ensures in
    added_more one (rw c.state_system-verdict.ensures at c.put_verdict.ensures)
