-- `ending::tell_board` meets its contract: the number's digits stand at the front of the word's room. Assumes nothing.
use mathlib.Core.Path.{sym}
use native.Mathlib.Omega.{arith}
use lib.Seq.{length-take-le}
use Rattle.text.proofs.Digits.{decimal-short}
use Rattle.text.proofs.Adding.{put-added}
use Rattle.listing.proofs.ending.tell_board.Goals as goal

pub slice_bounds-plus-end : goal.slice_bounds-plus-end
slice_bounds-plus-end c = sym (length-take-le c.put_number-end.result _ c.put_number-end.ensures.within)

pub returns : goal.returns
returns c =
    let a = put-added (omega (arith, decimal-short c.args.board)) c.put_number-end.ensures in
    rw a.stands at c.plus.ensures
