-- `put_fault` meets its contract: where it is, what was wanted and the line's end fit. Assumes nothing.
use native.Mathlib.Omega.{arith}
use Rattle.text.proofs.Adding.{put-added, added_more}
use Rattle.faults.specs.Told.{fault_text}
use Rattle.faults.proofs.Lengths.{spot-short, wanted-short}
use Rattle.faults.proofs.put_fault.Goals as goal

pub put-middle-requires : goal.put-middle-requires
put-middle-requires c =
    omega (arith, c.requires, c.put_spot-spot.auto, c.put_spot-spot.ensures.ends, spot-short c.args.line c.args.word.now)

pub put_wanted-end-requires : goal.put_wanted-end-requires
put_wanted-end-requires c =
    let short = spot-short c.args.line c.args.word.now in
    let middle = put-added (omega (arith, c.requires, c.put_spot-spot.auto, c.put_spot-spot.ensures.ends, short)) c.put-middle.ensures in
    omega (arith, c.requires, c.put_spot-spot.auto, c.put_spot-spot.ensures.ends, short, c.put-middle.auto, middle.ends)

pub put-requires : goal.put-requires
put-requires c =
    let short = spot-short c.args.line c.args.word.now in
    let middle = put-added (omega (arith, c.requires, c.put_spot-spot.auto, c.put_spot-spot.ensures.ends, short)) c.put-middle.ensures in
    omega (arith, c.requires, c.put_spot-spot.auto, c.put_spot-spot.ensures.ends, short, c.put-middle.auto, middle.ends, c.put_wanted-end.auto, c.put_wanted-end.ensures.ends, wanted-short c.args.wanted c.args.named)

pub returns : goal.returns
unfolding fault_text
returns c =
    let short = spot-short c.args.line c.args.word.now in
    let middle = put-added (omega (arith, c.requires, c.put_spot-spot.auto, c.put_spot-spot.ensures.ends, short)) c.put-middle.ensures in
    let three = added_more (added_more c.put_spot-spot.ensures middle) c.put_wanted-end.ensures in
    let ends = wanted-short c.args.wanted c.args.named in
    added_more three
    (put-added (omega (arith, c.requires, c.put_spot-spot.auto, c.put_spot-spot.ensures.ends, short, c.put-middle.auto, middle.ends, c.put_wanted-end.auto, c.put_wanted-end.ensures.ends, ends))
    c.put.ensures)
