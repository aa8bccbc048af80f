-- `telling::put_place` meets its contract: the place and the line's end fit. Assumes nothing.
use native.Mathlib.Omega.{arith}
use borrow.Author.Tests.{eq-eqb, ne_eqb}
use Rattle.text.specs.Decimal.{text}
use Rattle.text.proofs.Adding.{put-added, named-added, named-reach, added_more}
use Rattle.deckstate.proofs.telling.put_place.Goals as goal

pub returns-then-place-eq0 : goal.returns-then-place-eq0
returns-then-place-eq0 c =
    rw (eq-eqb _ _ c.if-place-eq0.true) (put-added (omega (arith, c.requires)) c.put.ensures)

pub put-requires-2 : goal.put-requires-2
put-requires-2 c =
    let one = named-added (omega (arith, c.requires)) c.put_named-end.ensures in
    omega (arith, c.requires, c.put_named-end.auto, named-reach (text " fails from ") c.args.place one)

pub returns : goal.returns
returns c =
    let one = named-added (omega (arith, c.requires)) c.put_named-end.ensures in
    let reach = named-reach (text " fails from ") c.args.place one in
    rw (ne_eqb _ _ c.if-place-eq0.false) (added_more one (put-added (omega (arith, c.requires, c.put_named-end.auto, reach)) c.put-2.ensures))
