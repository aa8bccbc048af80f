-- `lines::put_system` meets its contract: the system's number and its rating fit. Assumes nothing.
use native.Mathlib.Omega.{arith}
use Prim.Native.Nat.{◌+◌}
use Rattle.text.specs.Decimal.{text}
use Rattle.text.proofs.Adding.{named-added, named-reach, added_more}
use Rattle.deck.proofs.Kept.{few-systems}
use Rattle.systems.proofs.Figures.{answer-within}
use Rattle.decklist.proofs.lines.put_system.Goals as goal

pub overflow_add-s : goal.overflow_add-s
overflow_add-s c =
    omega (arith, c.requires.placed.place, few-systems c.requires.placed.headed)

pub put_rating-requires : goal.put_rating-requires
put_rating-requires c =
    let one = named-added (omega (arith, c.requires.room)) c.put_named-end.ensures in record { placed = c.requires.placed; within = rw c.rate-rating.ensures (answer-within c.args.file.now c.args.s); room = omega (arith, c.requires.room, c.put_named-end.auto, named-reach (text "system ") (c.args.s + 1) one) }

pub returns : goal.returns
returns c =
    let one = named-added (omega (arith, c.requires.room)) c.put_named-end.ensures in
    added_more one (rw c.rate-rating.ensures at c.put_rating.ensures)
