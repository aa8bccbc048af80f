-- `lines::put_signed_pair` meets its contract: the two named numbers fit. Assumes nothing.
use native.Mathlib.Omega.{arith}
use mir.Syntax.{w64}
use mir.ValLaws.{to_z-of_z}
use Rattle.text.proofs.Adding.{signed-reach, added_more}
use Rattle.text.proofs.lines.put_signed_pair.Goals as goal

pub put_signed-requires : goal.put_signed-requires
put_signed-requires c =
    let one = rw (to_z-of_z w64 c.args.a c.ranges.a) at c.put_signed-middle.ensures in
    omega (arith, c.requires, c.put_signed-middle.auto, signed-reach c.args.first.now c.args.a one)

pub returns : goal.returns
returns c =
    let one = rw (to_z-of_z w64 c.args.a c.ranges.a) at c.put_signed-middle.ensures in
    added_more one (rw (to_z-of_z w64 c.args.b c.ranges.b) at c.put_signed.ensures)
