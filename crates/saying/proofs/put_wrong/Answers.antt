-- `put_wrong` meets its contract: the front of the word as it is shown stands between the name and the remedy. Assumes nothing.
use native.Mathlib.Omega.{arith}
use Rattle.text.specs.Decimal.{text}
use Rattle.text.proofs.Adding.{added-counts, added_more}
use Rattle.saying.proofs.Texts.{three-ends, shown-short}
use Rattle.saying.proofs.put_wrong.Goals as goal

pub slice_bounds-front-end : goal.slice_bounds-front-end
slice_bounds-front-end c =
    (added-counts c.put_shown-length.ensures).0

pub put_three-end-requires : goal.put_three-end-requires
put_three-end-requires c =
    omega (arith, c.requires.named, c.requires.room, (added-counts c.put_shown-length.ensures).1, c.put_shown-length.ensures.ends, shown-short c.args.word.now)

pub put_remedy-requires : goal.put_remedy-requires
put_remedy-requires c =
    let counts = (added-counts c.put_shown-length.ensures).1 in
    let ends = three-ends c.args.program.now (text ": ") _ c.put_three-end.ensures in
    record { named = c.requires.named; room = omega (arith, c.requires.named, c.requires.room, c.put_three-end.auto, ends, counts, c.put_shown-length.ensures.ends, shown-short c.args.word.now) }

pub returns : goal.returns
returns c =
    added_more (rw c.put_shown-length.ensures.stands at c.put_three-end.ensures) c.put_remedy.ensures
