-- `put_shown` meets its contract, by the word's length. Assumes nothing.
use mathlib.Core.Path.{sym}
use native.Mathlib.Omega.{arith}
use lib.Seq.{length-take-le, take_all}
use Rattle.saying.specs.Said.{most_shown}
use Rattle.saying.proofs.put_shown.Goals as goal

pub slice_bounds-put_plain-end : goal.slice_bounds-put_plain-end
slice_bounds-put_plain-end c =
    sym (length-take-le most_shown c.args.word.now (omega arith))

pub put_plain-requires : goal.put_plain-requires
put_plain-requires c =
    omega (arith, c.requires, length-take-le most_shown c.args.word.now (omega (arith, c.if-word-gt-SHOWN.true)))

pub returns : goal.returns
returns c =
    rw (take_all most_shown c.args.word.now (omega (arith, c.if-word-gt-SHOWN.false))) c.put_plain-2.ensures
