-- `lines::put_refusal` meets its contract: the line is put with the cause that was found. Assumes nothing.
use native.Mathlib.Omega.{arith}
use Rattle.deck.proofs.Kept.{few-fans}
use Rattle.deckworth.proofs.lines.put_refusal.Goals as goal

pub overflow_add-i : goal.overflow_add-i
overflow_add-i c =
    omega (arith, c.requires.fan, few-fans c.requires.placed.headed)

pub returns : goal.returns
returns c =
    rw c.fan_why-why.ensures at c.put_worded.ensures
