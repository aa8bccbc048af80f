-- `feed` meets its contract: the piece is within one line, or a line ends in it (Pieces). Assumes nothing.
use mathlib.Core.Path.{◌≡◌, sym, ap, ◌∙◌}
use mathlib.Core.List.{◌++◌}
use Prim.Native.Nat.{◌+◌, ◌-◌, ◌<◌}
use native.Mathlib.Omega.{arith}
use lib.ListN.{length, take, drop, length-drop, length-take}
use lib.Seq.{length-take-le, take_all}
use Rattle.text_stream.specs.Feeding.{line_room}
use Rattle.text_stream.proofs.Pieces.{fed-part, fed-lines}
use Rattle.text_stream.proofs.feed.Goals as goal
use Rattle.text_stream.proofs.feed.Goals.{After-slice_known-3-1}

pub slice_bounds-keep-end : goal.slice_bounds-keep-end
slice_bounds-keep-end c =
    sym (length-take-le _ _ c.line_end-first.ensures.high)

pub keep-kept-requires : goal.keep-kept-requires
keep-kept-requires c =
    (c.requires.sane.1, c.requires.sane.0.within)

pub returns-then-first-piece : goal.returns-then-first-piece
returns-then-first-piece c =
    record {
      few = omega arith;
      sane = record { listing = c.requires.sane.0.listing; within = c.keep-kept.ensures.0 };
      holds = λ bytes h. fed-part h c.args.piece.now (rw c.if-first-piece.true at c.line_end-first.ensures) _ _ c.keep-kept.ensures.0 (c.keep-kept.ensures.1 ∙ ap (λ n. take line_room (take c.args.before.kept c.args.line.now ++ take n c.args.piece.now)) c.if-first-piece.true);
    }

pub slice_bounds-read_line-end : goal.slice_bounds-read_line-end
slice_bounds-read_line-end c =
    omega (arith, c.keep-kept.ensures.0, c.keep-kept.auto, c.requires.sane.1)

pub slice_bounds-read_line-end-2 : goal.slice_bounds-read_line-end-2
slice_bounds-read_line-end-2 c = sym (length-take-le _ _ (omega (arith, c.keep-kept.ensures.0, c.keep-kept.auto, c.requires.sane.1)))

pub read_line-across-requires : goal.read_line-across-requires
read_line-across-requires c =
    (c.requires.sane.0.listing, omega (arith, c.line_end-first.ensures.high, c.if-first-piece.false, c.requires.piece_bound))

pub slice_bounds-tail-count : goal.slice_bounds-tail-count
slice_bounds-tail-count c =
    omega (arith, c.line_end-first.ensures.high, c.if-first-piece.false)

pub read_lines-reached-requires : goal.read_lines-reached-requires
read_lines-reached-requires c =
    let short = length-take (length c.args.piece.now - (c.line_end-first.result + 1)) (drop (c.line_end-first.result + 1) c.args.piece.now) in
    (c.read_line-across.ensures.sane, omega (arith, short, c.read_line-across.ensures.few, c.line_end-first.ensures.high, c.if-first-piece.false, c.requires.piece_bound))

pub slice_bounds-keep-count : goal.slice_bounds-keep-count
slice_bounds-keep-count c =
    omega (arith, c.read_lines-reached.ensures.end.within)

pub keep-rest-requires : goal.keep-rest-requires
keep-rest-requires c =
    (omega (arith, c.keep-kept.auto, c.requires.sane.1), omega arith)

pub returns : goal.returns
returns c =
    let more : c.line_end-first.result < length c.args.piece.now = omega (arith, c.line_end-first.ensures.high, c.if-first-piece.false) in
    let size = length c.args.piece.now - (c.line_end-first.result + 1) in
    let tail = take size (drop (c.line_end-first.result + 1) c.args.piece.now) in
    let tailed : tail ≡ drop (c.line_end-first.result + 1) c.args.piece.now = take_all size (drop (c.line_end-first.result + 1) c.args.piece.now) (omega (arith, length-drop (c.line_end-first.result + 1) c.args.piece.now)) in
    let left = take (length tail - c.read_lines-reached.result.at) (drop c.read_lines-reached.result.at tail) in
    let lasts : left ≡ drop c.read_lines-reached.result.at tail = take_all (length tail - c.read_lines-reached.result.at) (drop c.read_lines-reached.result.at tail) (omega (arith, length-drop c.read_lines-reached.result.at tail)) in
    let short = ap length tailed ∙ length-drop (c.line_end-first.result + 1) c.args.piece.now in
    record {
      few = omega (arith, c.read_lines-reached.ensures.steps.few, c.read_line-across.ensures.few, short, more);
      sane = record { listing = c.read_lines-reached.ensures.steps.sane; within = c.keep-rest.ensures.0 };
      holds = λ bytes h.
          fed-lines h c.args.piece.now c.line_end-first.result c.line_end-first.ensures more _ c.keep-kept.ensures.1 c.read_line-across.ensures tail tailed c.read_lines-reached.ensures _ _ left
          c.keep-rest.ensures.0 lasts c.keep-rest.ensures.1;
    }
