-- `keep` meets its contract: all bytes fit, or those that there is room for. Assumes nothing.
use mathlib.Core.Path.{sym}
use Prim.Native.Nat.{◌-◌}
use native.Mathlib.Omega.{arith}
use lib.ListN.{length-take}
use lib.Seq.{length-take-le}
use Rattle.text.proofs.Adding.{put-added}
use Rattle.text_stream.specs.Feeding.{line_room}
use Rattle.text_stream.proofs.Pieces.{kept-all, kept-cut}
use Rattle.text_stream.proofs.keep.Goals as goal

pub returns-then-more-left : goal.returns-then-more-left
returns-then-more-left c =
    kept-all c.args.line.now c.args.more.now c.args.kept (omega (arith, c.requires)) c.requires.1 c.if-more-left.true
    (put-added (omega (arith, c.requires, c.if-more-left.true)) c.put.ensures)

pub slice_bounds-put-end : goal.slice_bounds-put-end
slice_bounds-put-end c =
    sym (length-take-le _ _ (omega (arith, c.if-more-left.false)))

pub returns : goal.returns
returns c =
    kept-cut c.args.line.now c.args.more.now c.args.kept (omega (arith, c.requires)) c.requires.1 (omega (arith, c.if-more-left.false))
    (put-added (omega (arith, c.requires, length-take (line_room - c.args.kept) c.args.more.now)) c.put-2.ensures)
