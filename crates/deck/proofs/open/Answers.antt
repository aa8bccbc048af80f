-- `deck::open` meets its contract: past a check that answered no, the refusal is that of the checks after it. Assumes nothing.
use mathlib.Core.Path.{◌≡◌, sym, ap, ◌∙◌}
use mathlib.Core.Bool.{false}
use native.Mathlib.Omega.{arith}
use borrow.Author.Tests.{lt-ltb, le-ltb}
use Rattle.rules.specs.File.{header_length, version_in, bad_start, file_refusal}
use Rattle.std.proofs.lemmas.Result.{err_from_is_err_and}
use Rattle.rules.proofs.Accepted.{first-of, first-after}
use Rattle.deck.specs.Outcome.{body_refusal}
use Rattle.deck.proofs.Checks.{body-after}
use Rattle.deck.proofs.Outcome.{opens-refused, opens-head}
use Rattle.deck.proofs.open.Goals as goal
use Rattle.deck.proofs.open.Goals.{After-header_length, Else-bad_start, Else-file-header_length}

header : (c : After-header_length) → c.header_length.result ≡ header_length (version_in c.args.file.now)
header c = c.header_length.ensures.0 ∙ ap header_length c.number2-version.ensures

started : (c : Else-bad_start) → bad_start c.args.file.now ≡ false
started c = sym c.bad_start.ensures ∙ c.if-bad_start.false

-- past the header the refusal is that of the body
past : (c : Else-file-header_length) → file_refusal c.args.file.now ≡ body_refusal c.args.file.now
past c =
    body-after _ (le-ltb _ _ c.if-file-lt-SHORTEST_HEADER.false) (sym c.bad_start.ensures ∙ c.if-bad_start.false)
    (le-ltb _ _ (rw (c.header_length.ensures.0 ∙ ap header_length c.number2-version.ensures) at c.if-file-header_length.false))

pub returns-then-file-lt-SHORTEST_HEADER : goal.returns-then-file-lt-SHORTEST_HEADER
unfolding file_refusal
returns-then-file-lt-SHORTEST_HEADER c = opens-refused _ (sym (first-of 10 _ _ (lt-ltb _ _ c.if-file-lt-SHORTEST_HEADER.true)))

pub returns-then-bad_start : goal.returns-then-bad_start
unfolding file_refusal
returns-then-bad_start c =
    opens-refused _
    (sym (first-after 10 _ _ (le-ltb _ _ c.if-file-lt-SHORTEST_HEADER.false) ∙ first-of 11 _ _ (sym c.bad_start.ensures ∙ c.if-bad_start.true)))

pub returns-then-file-header_length : goal.returns-then-file-header_length
unfolding file_refusal
returns-then-file-header_length c =
    opens-refused _
    (sym
    (first-after 10 _ _ (le-ltb _ _ c.if-file-lt-SHORTEST_HEADER.false)
    ∙ first-after 11 _ _ (started ((goal.at.returns-then-file-header_length c).Else-bad_start))
    ∙ first-of 10 _ _ (lt-ltb _ _ (rw (header ((goal.at.returns-then-file-header_length c).After-header_length)) at c.if-file-header_length.true))))

pub head_given-head-requires : goal.head_given-head-requires
head_given-head-requires c = record { long = rw (header ((goal.at.head_given-head-requires c).After-header_length)) at c.if-file-header_length.false; is = c.number2-version.ensures }

pub returns-in_err-body_refusal : goal.returns-in_err-body_refusal
returns-in_err-body_refusal c =
    let p = err_from_is_err_and c.from_residual.result c.from_residual.ensures.1 in
    rw (p.1, p.2) (opens-refused _ (c.in_err-body_refusal.ensures ∙ sym (past ((goal.at.returns-in_err-body_refusal c).Else-file-header_length))))

pub returns : goal.returns
returns c =
    opens-head c.head_given-head.ensures.says (past ((goal.at.returns c).Else-file-header_length) ∙ sym c.in_ok-body_refusal.ensures)
