-- `shown::put_shown` meets its contract, by the word's length. Assumes nothing.
use mathlib.Core.Path.{◌≡◌, sym}
use mathlib.Core.List.{map}
use Prim.Native.Nat.{◌+◌}
use native.Mathlib.Omega.{arith}
use lib.ListN.{length, take, length-map}
use lib.Seq.{length-take-le}
use borrow.Author.Tests.{eq-eqb, ne_eqb, lt-ltb, le-ltb}
use Rattle.text.proofs.Adding.{put-added, added_more}
use Rattle.faults.specs.Told.{plain, most_shown, shown}
use Rattle.faults.proofs.shown.put_shown.Goals as goal

pub returns-then-word-eq0 : goal.returns-then-word-eq0
unfolding shown
returns-then-word-eq0 c =
    rw (eq-eqb _ 0 c.if-word-eq0.true) (put-added (omega (arith, c.requires)) c.put.ensures)

pub slice_bounds-put_plain-end : goal.slice_bounds-put_plain-end
slice_bounds-put_plain-end c =
    sym (length-take-le most_shown c.args.word.now (omega arith))

pub put_plain-end-requires : goal.put_plain-end-requires
put_plain-end-requires c =
    let size = length-take-le most_shown c.args.word.now (omega arith) in omega (arith, c.requires, size)

pub put-requires-then-word-gt-MOST_SHOWN : goal.put-requires-then-word-gt-MOST_SHOWN
put-requires-then-word-gt-MOST_SHOWN c =
    let size = length-take-le most_shown c.args.word.now (omega (arith, c.if-word-gt-MOST_SHOWN.true)) in
    let ends : c.put_plain-end.result ≡ c.args.at + length (map plain (take most_shown c.args.word.now)) = c.put_plain-end.ensures.ends in
    omega (arith, c.requires, c.put_plain-end.auto, size, length-map (take most_shown c.args.word.now) plain)

pub returns-then-word-gt-MOST_SHOWN : goal.returns-then-word-gt-MOST_SHOWN
unfolding shown
returns-then-word-gt-MOST_SHOWN c =
    let size = length-take-le most_shown c.args.word.now (omega (arith, c.if-word-gt-MOST_SHOWN.true)) in
    let room = length-map (take most_shown c.args.word.now) plain in
    rw (ne_eqb _ 0 c.if-word-eq0.false, lt-ltb _ _ c.if-word-gt-MOST_SHOWN.true)
    (added_more c.put_plain-end.ensures (put-added (omega (arith, c.requires, c.put_plain-end.auto, c.put_plain-end.ensures.ends, size, room)) c.put-then-word-gt-MOST_SHOWN.ensures))

pub returns : goal.returns
unfolding shown
returns c =
    rw (ne_eqb _ 0 c.if-word-eq0.false, le-ltb _ _ c.if-word-gt-MOST_SHOWN.false) c.put_plain.ensures
