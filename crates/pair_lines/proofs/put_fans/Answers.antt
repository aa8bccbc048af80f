-- `put_fans` meets its contract: the figures fit behind what names the fans. Assumes nothing.
use Prim.Native.Nat.{◌+◌, ◌≤◌}
use native.Mathlib.Omega.{arith}
use Rattle.text.specs.Decimal.{text}
use Rattle.text.specs.Lines.{named_room, pair_room}
use Rattle.text.proofs.Adding.{added_more, named-added, named-reach, pair-reach}
use Rattle.pair_lines.proofs.put_fans.Goals as goal
use Rattle.pair_lines.proofs.put_fans.Goals.{After-put_named-fans, After-put_pair-named}

-- the first fan put, and the second
paired : (c : After-put_pair-named) → c.put_pair-named.result ≤ c.args.at + pair_room (text "system ") (text " fans ")
paired c = pair-reach (text "system ") c.args.s (text " fans ") (c.args.a + c.args.best.first) c.put_pair-named.ensures

second : (c : After-put_named-fans) → c.put_named-fans.result ≤ c.put_pair-named.result + named_room (text " and ")
second c =
    let pair = pair-reach (text "system ") c.args.s (text " fans ") (c.args.a + c.args.best.first) c.put_pair-named.ensures in
    named-reach (text " and ") (c.args.a + c.args.best.second) (named-added (omega (arith, c.requires.room, c.put_pair-named.auto, pair)) c.put_named-fans.ensures)

pub overflow_add-first : goal.overflow_add-first
overflow_add-first c = omega (arith, c.requires.few.few)

pub overflow_add-second : goal.overflow_add-second
overflow_add-second c = omega (arith, c.requires.few.few)

pub put_pair-named-requires : goal.put_pair-named-requires
put_pair-named-requires c = omega (arith, c.requires.room)

pub put_named-fans-requires : goal.put_named-fans-requires
put_named-fans-requires c =
    omega (arith, c.requires.room, c.put_pair-named.auto, paired ((goal.at.put_named-fans-requires c).After-put_pair-named))

pub put_rated-requires : goal.put_rated-requires
put_rated-requires c =
    record {
      within = c.requires.few.within;
      room = omega (
        arith,
        c.requires.room,
        c.put_pair-named.auto,
        paired ((goal.at.put_rated-requires c).After-put_pair-named),
        c.put_named-fans.auto,
        second ((goal.at.put_rated-requires c).After-put_named-fans),
      );
    }

pub returns : goal.returns
returns c =
    added_more c.put_pair-named.ensures
    (added_more
    (named-added (omega (arith, c.requires.room, c.put_pair-named.auto, paired ((goal.at.returns c).After-put_pair-named))) c.put_named-fans.ensures)
    c.put_rated.ensures)
