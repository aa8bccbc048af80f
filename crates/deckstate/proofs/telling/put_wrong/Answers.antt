-- `telling::put_wrong` meets its contract: the front of the word as it is shown stands between its number and what was wanted. Assumes nothing.
use native.Mathlib.Omega.{arith}
use lib.ListN.{take}
use Rattle.text.specs.Decimal.{text}
use Rattle.text.proofs.Adding.{added-counts, added_more, named-added, named-reach}
use Rattle.saying.proofs.Texts.{three-ends, shown-short}
use Rattle.deckstate.proofs.telling.put_wrong.Goals as goal

pub slice_bounds-front-end : goal.slice_bounds-front-end
slice_bounds-front-end c =
    (added-counts c.put_shown-length.ensures).0

pub put_three-quoted-requires : goal.put_three-quoted-requires
put_three-quoted-requires c =
    let first = named-added (omega (arith, c.requires)) c.put_named-start.ensures in
    let reach = named-reach (text "deckstate: word ") c.args.wrong first in
    let counts = (added-counts c.put_shown-length.ensures).1 in
    omega (arith, c.requires, c.put_named-start.auto, reach, counts, c.put_shown-length.ensures.ends, shown-short c.args.word.now)

pub put_wanted-requires : goal.put_wanted-requires
put_wanted-requires c =
    let first = named-added (omega (arith, c.requires)) c.put_named-start.ensures in
    let reach = named-reach (text "deckstate: word ") c.args.wrong first in
    let counts = (added-counts c.put_shown-length.ensures).1 in
    let ends = three-ends (text ", \"") (take c.put_shown-length.result _) (text "\": ") c.put_three-quoted.ensures in
    omega (arith, c.requires, c.put_named-start.auto, c.put_three-quoted.auto, reach, ends, counts, c.put_shown-length.ensures.ends, shown-short c.args.word.now)

pub returns : goal.returns
returns c =
    let first = named-added (omega (arith, c.requires)) c.put_named-start.ensures in
    added_more (added_more first (rw c.put_shown-length.ensures.stands at c.put_three-quoted.ensures)) c.put_wanted.ensures
