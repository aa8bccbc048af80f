-- `put_worded` meets its contract: without words the line as it was; with them the number, two marks, the words and the line's end, one behind the other.
use native.Mathlib.Omega.{arith}
use Rattle.text.specs.Decimal.{text}
use Rattle.text.proofs.Adding.{put-added, named-added, named-reach, added_more}
use Rattle.advice.proofs.Worded.{why-short}
use borrow.Author.Rules.{rules}
use Rattle.printing.proofs.put_worded.Goals as goal

-- Assumes nothing.
pub returns-then-not-words : goal.returns-then-not-words
returns-then-not-words c =
    rw c.if-not-words.true c.put_refused.ensures

pub returns : goal.returns
returns c =
    let one = named-added (omega (arith, c.requires)) c.put_named-named.ensures in
    let reach = named-reach (text " refused ") c.args.number one in
    let two = put-added (omega (arith, c.requires, c.put_named-named.auto, reach)) c.put-parted.ensures in
    let three = c.put_why-end.ensures.added (omega (arith, c.requires, c.put_named-named.auto, c.put-parted.auto, reach, two.ends)) in
    let four =
    put-added (omega (arith, c.requires, c.put_named-named.auto, c.put-parted.auto, c.put_why-end.auto, reach, two.ends, three.ends, why-short c.args.why)) c.put.ensures in
    rw c.if-not-words.false (added_more (added_more (added_more one two) three) four)
