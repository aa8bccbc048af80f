-- `lines::put_rating` meets its contract, case by case. Assumes nothing.
use native.Mathlib.Omega.{arith}
use mathlib.Core.Path.{ap, ◌∙◌}
use Rattle.rules.specs.State.{unit_of}
use Rattle.decklist.proofs.lines.put_rating.Goals as goal

pub put_answer-requires : goal.put_answer-requires
put_answer-requires c =
    record { within = rw c.in-Range.is at c.requires.within; room = omega (arith, c.requires.room) }

pub returns-in-Range : goal.returns-in-Range
returns-in-Range c =
    let u = c.is_decimal-decimal.ensures ∙ ap unit_of c.requires.placed.headed.says.version in
    rw c.in-Range.is (rw u at c.put_answer.ensures)

pub returns-in-Refused : goal.returns-in-Refused
returns-in-Refused c =
    rw c.in-Refused.is c.put_refusal.ensures
