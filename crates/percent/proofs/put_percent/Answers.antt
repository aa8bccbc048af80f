-- `percent::put_percent` meets its contract: the whole percents, the point, the digits and the sign fit. Assumes nothing.
use mathlib.Core.Path.{ap, ◌∙◌}
use Prim.Native.Nat.{◌/◌}
use native.Mathlib.Omega.{arith}
use lib.ListN.{length}
use Rattle.text.proofs.Adding.{put-added, named-added, named-reach, added_more}
use Rattle.percent.specs.Percent.{point_digits, million}
use Rattle.percent.proofs.Digits.{last-length}
use Rattle.percent.proofs.put_percent.Goals as goal

pub returns : goal.returns
returns c =
    let whole = c.args.millionths / million in
    let size = ap length c.last_digits-digits.ensures ∙ last-length point_digits c.args.millionths in
    let one = named-added (omega (arith, c.requires)) c.put_named-whole.ensures in
    let reach = named-reach c.args.name.now whole one in
    let two = put-added (omega (arith, c.requires, c.put_named-whole.auto, reach)) c.put-point.ensures in
    let three = put-added (omega (arith, c.requires, c.put_named-whole.auto, c.put-point.auto, reach, two.ends, size)) c.put-end.ensures in
    let four = put-added (omega (arith, c.requires, c.put_named-whole.auto, c.put-point.auto, c.put-end.auto, reach, two.ends, three.ends, size)) c.put.ensures in
    added_more (added_more (added_more one two) (rw c.last_digits-digits.ensures at three)) four
