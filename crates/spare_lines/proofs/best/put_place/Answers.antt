-- `best::put_place` meets its contract: the figures fit behind what names the place. Assumes nothing.
use Prim.Native.Nat.{◌+◌, ◌≤◌}
use native.Mathlib.Omega.{arith}
use Rattle.text.specs.Decimal.{text}
use Rattle.text.specs.Lines.{pair_room}
use Rattle.text.proofs.Adding.{added_more, pair-reach}
use Rattle.spare_lines.proofs.best.put_place.Goals as goal
use Rattle.spare_lines.proofs.best.put_place.Goals.{After-put_pair-named, After-put_pair-ranked}

-- the rank put, and the fan
first : (c : After-put_pair-ranked) → c.put_pair-ranked.result ≤ c.args.at + pair_room (text "system ") (text " rank ")
first c = pair-reach (text "system ") c.args.shown.s (text " rank ") c.args.rank c.put_pair-ranked.ensures

second : (c : After-put_pair-named) → c.put_pair-named.result ≤ c.put_pair-ranked.result + pair_room (text " alike ") (text " fan ")
second c = pair-reach (text " alike ") c.args.count (text " fan ") c.args.fan c.put_pair-named.ensures

pub put_pair-named-requires : goal.put_pair-named-requires
put_pair-named-requires c =
    omega (arith, c.requires.room, c.put_pair-ranked.auto, first ((goal.at.put_pair-named-requires c).After-put_pair-ranked))

pub put_rated-requires : goal.put_rated-requires
put_rated-requires c =
    record {
      within = c.requires.within;
      room = omega (
        arith,
        c.requires.room,
        c.put_pair-ranked.auto,
        first ((goal.at.put_rated-requires c).After-put_pair-ranked),
        c.put_pair-named.auto,
        second ((goal.at.put_rated-requires c).After-put_pair-named),
      );
    }

pub returns : goal.returns
returns c = added_more c.put_pair-ranked.ensures (added_more c.put_pair-named.ensures c.put_rated.ensures)
