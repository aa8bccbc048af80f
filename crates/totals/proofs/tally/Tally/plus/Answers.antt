-- `Tally::plus` meets its contract, case by case: a range adds to what is answered, a refusal to its own number. Assumes nothing.
use Prim.Native.Nat.{◌+◌}
use native.Mathlib.Omega.{arith}
use Rattle.totals.specs.Plus.{tally_plus}
use borrow.Author.Rules.{rules}
use Rattle.totals.proofs.tally.Tally.plus.Goals as goal

pub plus-lowest-requires : goal.plus-lowest-requires
plus-lowest-requires c =
    let fair = rw c.in-Range.is at c.requires.fair in
    record { held = c.requires.room.lowest; more = record { low = omega (arith, fair); unit = c.requires.unit } }

pub overflow_sub-high : goal.overflow_sub-high
overflow_sub-high c =
    omega (arith, rw c.in-Range.is at c.requires.fair)

pub plus-widths-requires : goal.plus-widths-requires
plus-widths-requires c =
    record { room = c.requires.room.widths; within = omega (arith, rw c.in-Range.is at c.requires.fair) }

pub returns-in-Range : goal.returns-in-Range
unfolding tally_plus
returns-in-Range c =
    rw c.in-Range.is
    (λ i. record { answered = c.args.self.answered + 1; refused = c.args.self.refused; lowest = c.plus-lowest.ensures i; widths = c.plus-widths.ensures i })

pub returns-in-Refused : goal.returns-in-Refused
unfolding tally_plus
returns-in-Refused c =
    rw c.in-Refused.is (λ i. record { answered = c.args.self.answered; refused = c.plus-refused.ensures i; lowest = c.args.self.lowest; widths = c.args.self.widths })
