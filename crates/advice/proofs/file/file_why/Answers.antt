-- `file::file_why` takes the tests of the definition of that name. Assumes nothing.
use mathlib.Core.Path.{sym, ap, ◌∙◌}
use lib.ListN.{length}
use borrow.Author.Tests.{lt-ltb, le-ltb}
use Rattle.rules.specs.Refusal.{bad_version}
use Rattle.rules.specs.File.{shortest_header}
use Rattle.advice.specs.Words.{because}
use Rattle.advice.specs.File.{file_why}
use Rattle.advice.specs.declared.cause.Cause.TheVariants.{UnknownVersion}
use Rattle.advice.proofs.file.file_why.Goals as goal

pub returns-then-file-lt-SHORTEST_HEADER : goal.returns-then-file-lt-SHORTEST_HEADER
unfolding file_why
returns-then-file-lt-SHORTEST_HEADER c = rw (lt-ltb (length c.args.file.now) shortest_header c.if-file-lt-SHORTEST_HEADER.true) c.because.ensures

pub returns-then-version_out : goal.returns-then-version_out
unfolding file_why
returns-then-version_out c =
    rw (le-ltb (length c.args.file.now) shortest_header c.if-file-lt-SHORTEST_HEADER.false, sym (c.version_out.ensures ∙ ap bad_version c.number2-version.ensures) ∙ c.if-version_out.true)
    (c.because-then-version_out.ensures ∙ ap (λ v. because UnknownVersion v 0 0 0) c.number2-version.ensures)

pub returns : goal.returns
unfolding file_why
returns c =
    rw (le-ltb (length c.args.file.now) shortest_header c.if-file-lt-SHORTEST_HEADER.false, sym (c.version_out.ensures ∙ ap bad_version c.number2-version.ensures) ∙ c.if-version_out.false)
    c.header_why.ensures
