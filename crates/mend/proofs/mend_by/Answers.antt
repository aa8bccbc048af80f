-- `mend::mend_by` meets its contract, on a refusal for want of room and on none. Assumes nothing.
use mathlib.Core.Path.{ap, ◌∙◌}
use Prim.Native.Nat.{◌-◌}
use native.Mathlib.Omega.{arith}
use lib.ListN.{length}
use Rattle.mend.proofs.Mendable.{mendable}
use Rattle.mend.proofs.Looking.{small, length-own}
use Rattle.mend.proofs.Mended.{mended-length}
use Rattle.mend.proofs.Outcome.{refused-room, refused-list, both-mended}
use borrow.Author.Rules.{rules}
use Rattle.mend.proofs.mend_by.Goals as goal

pub length_given-size-requires : goal.length_given-size-requires
length_given-size-requires c = small c.requires

pub returns-then-room-size : goal.returns-then-room-size
returns-then-room-size c =
    refused-room c.requires.none (rw (c.length_given-size.ensures ∙ length-own c.requires) at c.if-room-size.true)

pub returns-then-list-changed : goal.returns-then-list-changed
returns-then-list-changed c =
    refused-list c.requires.none (omega (arith, c.changed_in-changed.ensures.0, c.if-list-changed.true))

pub put_mended-requires : goal.put_mended-requires
put_mended-requires c =
    let size = c.length_given-size.ensures ∙ length-own c.requires in
    record { looked = c.requires; fits = omega (arith, mended-length _ c.requires.none, size, c.if-room-size.false) }

pub overflow_sub-cut : goal.overflow_sub-cut
overflow_sub-cut c =
    omega (arith, (mendable _ c.requires.none).whole, c.length_given-size.ensures ∙ length-own c.requires)

pub returns : goal.returns
returns c =
    let size = c.length_given-size.ensures ∙ length-own c.requires in
    both-mended c.requires.none
    (omega (arith, size, c.if-room-size.false))
    (omega (arith, c.changed_in-changed.ensures.0, c.if-list-changed.false))
    size
    c.changed_in-changed.ensures.0
    (ap (λ size. length c.args.bytes.now - size) size)
    c.put_mended.ensures
    c.put_list.ensures
