-- `lines::put_fan` meets its contract: what the fan is worth fits behind the two numbers. Assumes nothing.
use Prim.Native.Nat.{◌+◌}
use native.Mathlib.Omega.{arith}
use Rattle.text.specs.Decimal.{text}
use Rattle.text.proofs.Adding.{added_more, pair-reach}
use Rattle.deckworth.proofs.lines.put_fan.Goals as goal

pub put_worth-requires : goal.put_worth-requires
put_worth-requires c =
    let reach = pair-reach (text "system ") (c.args.s + 1) (text " fan ") (c.args.i + 1) c.put_pair-end.ensures in
    omega (arith, c.requires.room, c.put_pair-end.auto, reach)

pub returns : goal.returns
returns c =
    added_more c.put_pair-end.ensures (rw c.weigh-worth.ensures at c.put_worth.ensures)
