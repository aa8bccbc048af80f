-- `lines::put_worth` meets its contract, case by case: the line's end fits behind the two ends. Assumes nothing.
use mathlib.Core.Path.{◌≡◌}
use mir.Syntax.{w64}
use mir.Val.{to_z, of_z}
use mir.ValLaws.{to_z-of_z}
use native.Mathlib.Omega.{arith}
use Rattle.text.specs.Decimal.{text}
use Rattle.text.proofs.Adding.{put-added, added_more, signed-pair-reach}
use Rattle.deckworth.proofs.lines.put_worth.Goals as goal

pub put-requires : goal.put-requires
put-requires c =
    let lower : to_z w64 (of_z w64 c.in-Ends.lower) ≡ c.in-Ends.lower = grind (arith, to_z-of_z) in
    let upper : to_z w64 (of_z w64 c.in-Ends.upper) ≡ c.in-Ends.upper = grind (arith, to_z-of_z) in
    let ends = rw (lower, upper) at c.put_signed_pair-end.ensures in
    let reach = signed-pair-reach (text " lower ") c.in-Ends.lower (text " upper ") c.in-Ends.upper ends in
    omega (arith, c.requires.room, c.put_signed_pair-end.auto, reach)

pub returns-in-Ends : goal.returns-in-Ends
returns-in-Ends c =
    let lower : to_z w64 (of_z w64 c.in-Ends.lower) ≡ c.in-Ends.lower = grind (arith, to_z-of_z) in
    let upper : to_z w64 (of_z w64 c.in-Ends.upper) ≡ c.in-Ends.upper = grind (arith, to_z-of_z) in
    let ends = rw (lower, upper) at c.put_signed_pair-end.ensures in
    let reach = signed-pair-reach (text " lower ") c.in-Ends.lower (text " upper ") c.in-Ends.upper ends in
    rw c.in-Ends.is (added_more ends (put-added (omega (arith, c.requires.room, c.put_signed_pair-end.auto, reach)) c.put.ensures))

pub returns-in-Refused : goal.returns-in-Refused
returns-in-Refused c =
    rw c.in-Refused.is c.put_refusal.ensures
