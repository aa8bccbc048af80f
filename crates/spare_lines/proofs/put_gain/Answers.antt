-- `put_gain` meets its contract: the two ends fit behind the system and the fan, and are the differences of the figures. Assumes nothing.
use mathlib.Core.Path.{◌≡◌, ◌∙◌}
use Prim.Native.Nat.{◌+◌, ◌≤◌}
use native.Mathlib.Omega.{arith}
use lib.IntN.{sub_ℕ}
use mir.Syntax.{w64}
use mir.ValLaws.{to_z-of_z}
use Rattle.text.specs.Decimal.{text}
use Rattle.text.specs.Lines.{pair_room}
use Rattle.text.proofs.Signed.{held}
use Rattle.text.proofs.Adding.{put-added, added_more, pair-reach, signed-pair-reach}
use Rattle.swaps.proofs.Replaced.{less-fits}
use Rattle.spare_lines.proofs.put_gain.Goals as goal
use Rattle.spare_lines.proofs.put_gain.Goals.{After-less-upper, After-put_pair-named}

-- both ends worked out
lower-is : (c : After-less-upper) → held c.less-lower.result ≡ sub_ℕ c.args.after.low c.args.before.high
lower-is c =
    to_z-of_z w64 _ (rw c.less-lower.ensures (less-fits c.args.after.low c.args.before.high c.requires.within.0 c.requires.within.3)) ∙ c.less-lower.ensures

upper_is : (c : After-less-upper) → held c.less-upper.result ≡ sub_ℕ c.args.after.high c.args.before.low
upper_is c =
    to_z-of_z w64 _ (rw c.less-upper.ensures (less-fits c.args.after.high c.args.before.low c.requires.within.1 c.requires.within.2)) ∙ c.less-upper.ensures

pub less-lower-requires : goal.less-lower-requires
less-lower-requires c = (c.requires.within.0, c.requires.within.3)

pub less-upper-requires : goal.less-upper-requires
less-upper-requires c = (c.requires.within.1, c.requires.within.2)

pub put_pair-named-requires : goal.put_pair-named-requires
put_pair-named-requires c = omega (arith, c.requires.room)

-- how far the pair reaches, and the ends behind it
paired : (c : After-put_pair-named) → c.put_pair-named.result ≤ c.args.at + pair_room (text "system ") (text " fan ")
paired c = pair-reach (text "system ") c.args.s (text " fan ") c.args.fan c.put_pair-named.ensures

pub put_signed_pair-end-requires : goal.put_signed_pair-end-requires
put_signed_pair-end-requires c =
    omega (arith, c.requires.room, c.put_pair-named.auto, paired ((goal.at.put_signed_pair-end-requires c).After-put_pair-named))

pub put-requires : goal.put-requires
put-requires c =
    let reach = signed-pair-reach (text " lower ") (held c.less-lower.result) (text " upper ") (held c.less-upper.result) c.put_signed_pair-end.ensures in
    omega (arith, c.requires.room, c.put_pair-named.auto, paired ((goal.at.put-requires c).After-put_pair-named), c.put_signed_pair-end.auto, reach)

pub returns : goal.returns
returns c =
    let x = c.args in
    let ends = (goal.at.returns c).After-less-upper in
    let signed = rw (lower-is ends, upper_is ends) at c.put_signed_pair-end.ensures in
    let reach = signed-pair-reach (text " lower ") (sub_ℕ x.after.low x.before.high) (text " upper ") (sub_ℕ x.after.high x.before.low) signed in
    added_more c.put_pair-named.ensures
    (added_more signed
    (put-added (omega (arith, c.requires.room, c.put_pair-named.auto, paired ((goal.at.returns c).After-put_pair-named), c.put_signed_pair-end.auto, reach)) c.put.ensures))
