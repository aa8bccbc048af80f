-- `mend::cut` meets its contract: where the file ends by its head is where it ends by its bytes. Assumes nothing.
use mathlib.Core.Path.{sym, ap, ◌∙◌}
use lib.Dec.{ltb}
use mathlib.Core.List.{[]}
use lib.ListN.{length}
use borrow.Author.Tests.{lt-ltb, le-ltb}
use Rattle.rules.proofs.Accepted.{first-of, first-after}
use Rattle.deck.specs.Head.{length_by}
use Rattle.deck.proofs.Checks.{none_left}
use Rattle.deck.proofs.Outcome.{head-is}
use Rattle.mend.proofs.cut.Goals as goal

pub returns-then-bytes-length_given : goal.returns-then-bytes-length_given
returns-then-bytes-length_given c =
    let whole = c.length_given.ensures ∙ ap length_by (head-is c.requires.says) in
    sym (first-of 22 _ _ (ap (ltb (length c.args.bytes.now)) (sym whole) ∙ lt-ltb _ _ c.if-bytes-length_given.true))

pub returns : goal.returns
returns c =
    let whole = c.length_given.ensures ∙ ap length_by (head-is c.requires.says) in
    sym (first-after 22 _ [] (ap (ltb (length c.args.bytes.now)) (sym whole) ∙ le-ltb _ _ c.if-bytes-length_given.false) ∙ none_left)
