-- `mend::put_mended` meets its contract: the header is laid from the front on, and the file's own bytes behind it. Assumes nothing.
use mathlib.Core.Path.{ap, ◌∙◌}
use Prim.Native.Nat.{◌-◌}
use native.Mathlib.Omega.{arith}
use lib.ListN.{drop, length-take, length-drop}
use Rattle.rules.specs.File.{header_length}
use Rattle.writer.specs.Laid.{laid}
use Rattle.mend.proofs.Mendable.{mendable}
use Rattle.mend.proofs.Looking.{sized, small, header-own, length-own}
use Rattle.mend.proofs.Mended.{mended-length}
use Rattle.mend.proofs.Putting.{mended-laid}
use borrow.Author.Rules.{rules}
use Rattle.mend.proofs.put_mended.Goals as goal

pub put_head-requires : goal.put_head-requires
put_head-requires c =
    let header = ap header_length c.requires.looked.says.version in
    record { sized = sized c.requires.looked; fits = omega (arith, header, mended-length _ c.requires.looked.none, c.requires.fits) }

pub length_given-upto-requires : goal.length_given-upto-requires
length_given-upto-requires c =
    small c.requires.looked

pub slice_bounds-put_all1-end : goal.slice_bounds-put_all1-end
slice_bounds-put_all1-end c =
    omega (arith, (mendable _ c.requires.looked.none).whole, c.length_given-upto.ensures ∙ length-own c.requires.looked)

pub put_all1-requires : goal.put_all1-requires
put_all1-requires c =
    let begins = c.header_given-from.ensures.0 ∙ ap header_length c.requires.looked.says.version in
    let ends = c.length_given-upto.ensures ∙ length-own c.requires.looked in
    omega (
      arith,
      c.requires.fits,
      mended-length _ c.requires.looked.none,
      (mendable _ c.requires.looked.none).whole,
      begins,
      ends,
      c.put_head.auto,
      length-take (c.length_given-upto.result - c.header_given-from.result) (drop c.header_given-from.result c.args.bytes.now),
      length-drop c.header_given-from.result c.args.bytes.now,
    )

pub returns : goal.returns
returns c =
    let begins = c.header_given-from.ensures.0 ∙ ap header_length c.requires.looked.says.version in
    let ends = c.length_given-upto.ensures ∙ length-own c.requires.looked in
    let header = c.put_head.ensures ∙ ap (λ h. laid 0 h c.args.room.now) (header-own c.requires.looked) in
    mended-laid c.args.bytes.now c.args.room.now (record { each = λ i. (c.shared_slice_known-1.given i).fits }) c.requires.looked.none header
    (rw (begins, ends) at c.put_all1.ensures)
