-- `feed` meets its contract. The invariant: the state is fed the bytes passed. The measure is what is left of the piece. Assumes nothing.
use mathlib.Core.Path.{◌≡◌, sym, ap, ◌∙◌}
use mathlib.Core.List.{◌++◌}
use Prim.Native.Nat.{◌+◌, ◌-◌}
use native.Mathlib.Omega.{arith}
use lib.ListN.{length, take, drop, length-drop}
use lib.Seq.{take_all, take-add, length-take-le}
use Rattle.season_stream.proofs.Feeding.{fed-none, fed-twice}
use Rattle.season_stream.proofs.feed.Goals as goal

pub loop-at-init : goal.loop-at-init
loop-at-init c = (omega arith, fed-none c.requires)

pub overflow_sub-piece : goal.overflow_sub-piece
overflow_sub-piece c = omega arith

pub wanted-requires : goal.wanted-requires
wanted-requires c = record { sane = c.loop-at.invariant.1.sane; left_nonzero = omega arith }

pub overflow_add-end : goal.overflow_add-end
overflow_add-end c = omega (arith, c.wanted.ensures.1)

pub slice_bounds-taken-count : goal.slice_bounds-taken-count
slice_bounds-taken-count c = omega arith

pub taken-next-requires : goal.taken-next-requires
taken-next-requires c =
    let one : c.loop-at.at + c.wanted.result - c.loop-at.at ≡ c.wanted.result = omega arith in
    let long : length (take (c.loop-at.at + c.wanted.result - c.loop-at.at) (drop c.loop-at.at c.args.piece.now)) ≡ c.wanted.result = ap (λ m. length (take m (drop c.loop-at.at c.args.piece.now))) one ∙ length-take-le c.wanted.result (drop c.loop-at.at c.args.piece.now) (omega (arith, length-drop c.loop-at.at c.args.piece.now, c.wanted.ensures.1)) in
    record { sane = c.loop-at.invariant.1.sane; more_nonzero = (omega (arith, long, c.wanted.ensures.0), rw long c.wanted.ensures.2) }

pub loop-at-smaller : goal.loop-at-smaller
loop-at-smaller c = omega (arith, c.wanted.ensures)

pub loop-at-preserved : goal.loop-at-preserved
loop-at-preserved c =
    let one : c.loop-at.at + c.wanted.result - c.loop-at.at ≡ c.wanted.result = omega arith in
    let more : take c.loop-at.at c.args.piece.now ++ take (c.loop-at.at + c.wanted.result - c.loop-at.at) (drop c.loop-at.at c.args.piece.now) ≡ take (c.loop-at.at + c.wanted.result) c.args.piece.now = ap (λ m. take c.loop-at.at c.args.piece.now ++ take m (drop c.loop-at.at c.args.piece.now)) one ∙ sym (take-add c.loop-at.at c.wanted.result c.args.piece.now) in
    (omega (arith, c.wanted.ensures.1), rw more at (fed-twice c.loop-at.invariant.1 c.taken-next.ensures))

pub returns : goal.returns
returns c =
    rw (take_all c.loop-at.at c.args.piece.now c.loop-at-test.false) at c.loop-at.invariant.1
