-- `wanted::put_numbers` meets its contract, fault by fault: the two parts, the boards, or nothing. Assumes nothing.
use mathlib.Core.List.{[]}
use Prim.Native.Nat.{◌+◌}
use native.Mathlib.Omega.{arith}
use borrow.Author.Tests.{eq-eqb, ne_eqb}
use Rattle.text.specs.Decimal.{text}
use Rattle.text.proofs.Digits.{decimal-short}
use Rattle.text.proofs.Adding.{put-added, added_more, none-added, pair-reach}
use Rattle.faults.proofs.wanted.put_numbers.Goals as goal

pub put-requires : goal.put-requires
put-requires c =
    omega (arith, c.requires, c.put_pair-end.auto, pair-reach [] c.below-parts.result (text " or ") (c.below-parts.result + 1) c.put_pair-end.ensures)

pub returns-then-wanted-eq-BETWEEN_PARTS : goal.returns-then-wanted-eq-BETWEEN_PARTS
returns-then-wanted-eq-BETWEEN_PARTS c =
    let reach = pair-reach [] c.below-parts.result (text " or ") (c.below-parts.result + 1) c.put_pair-end.ensures in
    let both = added_more c.put_pair-end.ensures (put-added (omega (arith, c.requires, c.put_pair-end.auto, reach)) c.put.ensures) in
    rw (eq-eqb _ _ c.if-wanted-eq-BETWEEN_PARTS.true) (rw c.below-parts.ensures at both)

pub returns-then-wanted-eq-NO_SUCH_BOARD : goal.returns-then-wanted-eq-NO_SUCH_BOARD
returns-then-wanted-eq-NO_SUCH_BOARD c =
    rw (ne_eqb _ _ c.if-wanted-eq-BETWEEN_PARTS.false, eq-eqb _ _ c.if-wanted-eq-NO_SUCH_BOARD.true)
    (put-added (omega (arith, c.requires, decimal-short c.args.named)) c.put_number.ensures)

pub returns : goal.returns
returns c =
    rw (ne_eqb _ _ c.if-wanted-eq-BETWEEN_PARTS.false, ne_eqb _ _ c.if-wanted-eq-NO_SUCH_BOARD.false) (none-added c.args.out.now c.args.at)
