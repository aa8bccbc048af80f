-- `is_chance` is right: the two comparisons together are `isChance`, and the second is not made where the first fails. Assumes nothing.
use Rattle.std.proofs.Common.{Bool, ◌&&◌, sym, ap, ◌∙◌}
use denote.Floats.{passes}
use lib.Ieee.{binary64, fits, of_bits, le}
use Rattle.doubles.proofs.Judged.{one, judged}
use Rattle.doubles.proofs.is_chance.Goals as goal

pub returns-then-from_zero : goal.returns-then-from_zero
unfolding of_bits
returns-then-from_zero c =
    sym (ap (λ (t : Bool). t && le c.args.x one) c.if-from_zero.true) ∙ judged c.args.x (passes (fits binary64 c.args.x) c.well_formed.0.1)

pub returns-else-from_zero : goal.returns-else-from_zero
unfolding of_bits
returns-else-from_zero c =
    c.if-from_zero.false ∙ sym (ap (λ (t : Bool). t && le c.args.x one) c.if-from_zero.false) ∙ judged c.args.x (passes (fits binary64 c.args.x) c.well_formed.0.1)
