-- `put_system` meets its contract: the rule, the stretch and the line's end fit. Assumes nothing.
use native.Mathlib.Omega.{arith}
use Rattle.text.proofs.Adding.{put-added, added_more}
use Rattle.wording.specs.Lines.{system_text}
use Rattle.wording.proofs.Lengths.{rule-short, stretch-short}
use Rattle.wording.proofs.put_system.Goals as goal

pub put_rule-words-requires : goal.put_rule-words-requires
put_rule-words-requires c =
    let one = put-added (omega (arith, c.requires)) c.put-name.ensures in
    omega (arith, c.requires, c.put-name.auto, one.ends)

pub put_stretch-end-requires : goal.put_stretch-end-requires
put_stretch-end-requires c =
    let one = put-added (omega (arith, c.requires)) c.put-name.ensures in
    let short = rule-short c.args.kind c.args.first c.args.second in
    omega (arith, c.requires, c.put-name.auto, one.ends, c.put_rule-words.auto, c.put_rule-words.ensures.ends)

pub put-requires : goal.put-requires
put-requires c =
    let one = put-added (omega (arith, c.requires)) c.put-name.ensures in
    let short = rule-short c.args.kind c.args.first c.args.second in
    let ends = stretch-short c.args.n c.args.a c.args.b in
    omega (arith, c.requires, c.put-name.auto, one.ends, c.put_rule-words.auto, c.put_rule-words.ensures.ends, c.put_stretch-end.auto, c.put_stretch-end.ensures.ends)

pub returns : goal.returns
unfolding system_text
returns c =
    let one = put-added (omega (arith, c.requires)) c.put-name.ensures in
    let short = rule-short c.args.kind c.args.first c.args.second in
    let ends = stretch-short c.args.n c.args.a c.args.b in
    added_more (added_more (added_more one c.put_rule-words.ensures) c.put_stretch-end.ensures)
    (put-added (omega (arith, c.requires, c.put-name.auto, one.ends, c.put_rule-words.auto, c.put_rule-words.ensures.ends, c.put_stretch-end.auto, c.put_stretch-end.ensures.ends))
    c.put.ensures)
