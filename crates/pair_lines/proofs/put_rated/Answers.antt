-- `put_rated` meets its contract: the percents fit behind the figures. Assumes nothing.
use Prim.Native.Nat.{◌+◌, ◌≤◌}
use native.Mathlib.Omega.{arith}
use Rattle.text.specs.Decimal.{text}
use Rattle.text.specs.Lines.{pair_room}
use Rattle.text.proofs.Adding.{put-added, added_more, pair-reach}
use Rattle.percent.proofs.Digits.{range-short}
use Rattle.units.specs.Step.{whole}
use Rattle.pair_lines.proofs.put_rated.Goals as goal
use Rattle.pair_lines.proofs.put_rated.Goals.{After-put_pair-named}

-- the figures put
paired : (c : After-put_pair-named) → c.put_pair-named.result ≤ c.args.at + pair_room (text " low ") (text " high ")
paired c = pair-reach (text " low ") c.args.after.low (text " high ") c.args.after.high c.put_pair-named.ensures

pub put_range-end-requires : goal.put_range-end-requires
put_range-end-requires c =
    record {
      within = c.requires.within;
      room = omega (arith, c.requires.room, c.put_pair-named.auto, paired ((goal.at.put_range-end-requires c).After-put_pair-named));
    }

pub put-requires : goal.put-requires
put-requires c =
    omega (
      arith,
      c.requires.room,
      c.put_pair-named.auto,
      paired ((goal.at.put-requires c).After-put_pair-named),
      c.put_range-end.auto,
      c.put_range-end.ensures.ends,
      range-short (whole c.args.decimal) c.args.after.low c.args.after.high,
    )

pub returns : goal.returns
returns c =
    added_more c.put_pair-named.ensures
    (added_more c.put_range-end.ensures
    (put-added
    (omega (
      arith,
      c.requires.room,
      c.put_pair-named.auto,
      paired ((goal.at.returns c).After-put_pair-named),
      c.put_range-end.auto,
      c.put_range-end.ensures.ends,
      range-short (whole c.args.decimal) c.args.after.low c.args.after.high,
    ))
    c.put.ensures))
