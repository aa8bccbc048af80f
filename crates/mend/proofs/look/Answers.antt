-- `mend::look` meets its contract: past a check that answered no, the refusal is that of the checks after it. Assumes nothing.
use mathlib.Core.Path.{◌≡◌, sym, ap, ◌∙◌}
use mathlib.Core.Bool.{false}
use native.Mathlib.Omega.{arith}
use borrow.Author.Tests.{lt-ltb, le-ltb}
use Rattle.std.proofs.lemmas.Result.{err_from_is_err_and}
use Rattle.rules.specs.Refusal.{bad_version}
use Rattle.rules.specs.File.{header_length, version_in}
use Rattle.rules.specs.Mending.{beyond_mending}
use Rattle.rules.proofs.Accepted.{first-of, first-after}
use Rattle.mend.proofs.Checks.{counts-then}
use Rattle.mend.proofs.Looking.{looks-refused}
use borrow.Author.Rules.{rules}
use Rattle.mend.proofs.look.Goals as goal
use Rattle.mend.proofs.look.Goals.{After-header_length, Else-version_out}

-- the version that was read is the file's, and so is its header's length
header : (c : After-header_length) → let read = c.before.before.before in c.header_length.result ≡ header_length (version_in read.before.before.before.args.bytes.now)
header c = c.header_length.ensures.0 ∙ ap header_length c.number2-version.ensures

versioned : (c : Else-version_out) → let read = c.before.before in bad_version (version_in read.before.before.before.args.bytes.now) ≡ false
versioned c = ap bad_version (sym c.number2-version.ensures) ∙ sym c.version_out.ensures ∙ c.if-version_out.false

pub returns-then-bytes-lt-SHORTEST_HEADER : goal.returns-then-bytes-lt-SHORTEST_HEADER
unfolding beyond_mending
returns-then-bytes-lt-SHORTEST_HEADER c = looks-refused _ (sym (first-of 10 _ _ (lt-ltb _ _ c.if-bytes-lt-SHORTEST_HEADER.true)))

pub returns-then-version_out : goal.returns-then-version_out
unfolding beyond_mending
returns-then-version_out c =
    let bad = ap bad_version (sym c.number2-version.ensures) ∙ sym c.version_out.ensures ∙ c.if-version_out.true in
    looks-refused _ (sym (first-after 10 _ _ (le-ltb _ _ c.if-bytes-lt-SHORTEST_HEADER.false) ∙ first-of 11 _ _ bad))

pub returns-then-bytes-header_length : goal.returns-then-bytes-header_length
unfolding beyond_mending
returns-then-bytes-header_length c =
    looks-refused _
    (sym
    (first-after 10 _ _ (le-ltb _ _ c.if-bytes-lt-SHORTEST_HEADER.false)
    ∙ first-after 11 _ _ (versioned ((goal.at.returns-then-bytes-header_length c).Else-version_out))
    ∙ first-of 10 _ _ (lt-ltb _ _ (rw (header ((goal.at.returns-then-bytes-header_length c).After-header_length)) at c.if-bytes-header_length.true))))

pub head_given-head-requires : goal.head_given-head-requires
head_given-head-requires c = record { long = rw (header ((goal.at.head_given-head-requires c).After-header_length)) at c.if-bytes-header_length.false; is = c.number2-version.ensures }

pub returns-in_err-cut_refusal : goal.returns-in_err-cut_refusal
returns-in_err-cut_refusal c =
    let past = counts-then _ (le-ltb _ _ c.if-bytes-lt-SHORTEST_HEADER.false) (versioned ((goal.at.returns-in_err-cut_refusal c).Else-version_out)) (le-ltb _ _ (rw (header ((goal.at.returns-in_err-cut_refusal c).After-header_length)) at c.if-bytes-header_length.false)) in
    let p = err_from_is_err_and c.from_residual.result c.from_residual.ensures.1 in
    rw (p.1, p.2) (looks-refused _ (c.in_err-cut_refusal.ensures ∙ sym past))

pub returns : goal.returns
returns c =
    let past = counts-then _ (le-ltb _ _ c.if-bytes-lt-SHORTEST_HEADER.false) (versioned ((goal.at.returns c).Else-version_out)) (le-ltb _ _ (rw (header ((goal.at.returns c).After-header_length)) at c.if-bytes-header_length.false)) in
    record { refusal = c.in_ok-cut_refusal.ensures ∙ sym past; says = c.head_given-head.ensures.says }
