-- `lines::put_signed` meets its contract, by the number's sign: a minus fits before the digits. Assumes nothing.
use mathlib.Core.Path.{ap, ◌∙◌}
use native.Mathlib.Omega.{arith}
use lib.IntN.{nat_abs}
use mir.Syntax.{w64}
use mir.ValLaws.{to_z-of_z}
use Rattle.text.proofs.Digits.{decimal-short}
use Rattle.text.proofs.Adding.{put-added, named-added, added_more}
use Rattle.text.proofs.Signed.{not_negative, negative}
use Rattle.text.proofs.lines.put_signed.Goals as goal

pub returns-then-z-ge0 : goal.returns-then-z-ge0
returns-then-z-ge0 c =
    let is = not_negative c.args.z c.ranges.z c.if-z-ge0.true in
    let digits = c.absolute-digits.ensures ∙ ap nat_abs (to_z-of_z w64 _ c.ranges.z ∙ is) in
    rw is (rw digits at (named-added (omega (arith, c.requires)) c.put_named.ensures))

pub returns : goal.returns
returns c =
    let is = negative c.args.z c.ranges.z c.if-z-ge0.false in
    let digits = c.absolute-digits.ensures ∙ ap nat_abs (to_z-of_z w64 _ c.ranges.z ∙ is) in
    let short = decimal-short c.absolute-digits.result in
    let one = put-added (omega (arith, c.requires)) c.put-sign.ensures in
    let two = put-added (omega (arith, c.requires, c.put-sign.auto, one.ends)) c.put-end.ensures in
    let three = put-added (omega (arith, c.requires, c.put-sign.auto, c.put-end.auto, one.ends, two.ends, short)) c.put_number.ensures in
    rw is (added_more one (added_more two (rw digits at three)))
