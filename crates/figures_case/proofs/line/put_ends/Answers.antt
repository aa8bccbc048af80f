-- `figures_case::put_ends` meets its contract: the two ends with their names take no more than the room that is asked for. Assumes nothing.
use native.Mathlib.Omega.{arith}
use mir.Syntax.{w64}
use mir.ValLaws.{to_z-of_z}
use Rattle.text.specs.Decimal.{text}
use Rattle.text.proofs.Adding.{signed-pair-reach}
use Rattle.figures_case.proofs.line.put_ends.Goals as goal

pub returns : goal.returns
returns c =
    let lower = to_z-of_z w64 c.args.lower c.ranges.lower in
    let upper = to_z-of_z w64 c.args.upper c.ranges.upper in
    let put = rw (lower, upper) at c.put_signed_pair.ensures in
    omega (arith, c.put_signed_pair.auto, signed-pair-reach (text "lower ") c.args.lower (text " upper ") c.args.upper put)
