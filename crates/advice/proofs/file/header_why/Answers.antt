-- `file::header_why` takes the tests of the definition of that name. Assumes nothing.
use mathlib.Core.Path.{sym, ap, ◌∙◌}
use lib.ListN.{length}
use borrow.Author.Tests.{eq-eqb, ne_eqb, lt-ltb, le-ltb}
use Rattle.rules.specs.File.{zero_field, header_length, number_at, version_in}
use Rattle.advice.specs.Words.{because}
use Rattle.advice.specs.File.{header_why}
use Rattle.advice.specs.declared.cause.Cause.TheVariants.{HeaderShort, ZeroFieldSet}
use Rattle.advice.proofs.file.header_why.Goals as goal

pub returns-then-zeros-ne0 : goal.returns-then-zeros-ne0
unfolding header_why
returns-then-zeros-ne0 c =
    rw (ne_eqb (number_at 2 c.args.file.now zero_field) 0 (λ e. c.if-zeros-ne0.true (c.number2-zeros.ensures ∙ e))) (c.because.ensures ∙ ap (λ z. because ZeroFieldSet z 0 0 0) c.number2-zeros.ensures)

pub returns-then-file-header : goal.returns-then-file-header
unfolding header_why
returns-then-file-header c =
    let header = c.header_length-header.ensures.0 ∙ ap header_length c.requires.is in
    rw (
      eq-eqb (number_at 2 c.args.file.now zero_field) 0 (sym c.number2-zeros.ensures ∙ c.if-zeros-ne0.false),
      lt-ltb (length c.args.file.now) (header_length (version_in c.args.file.now)) (rw header at c.if-file-header.true),
    ) (c.because-then-file-header.ensures ∙ ap (λ h. because HeaderShort (length c.args.file.now) h 0 0) header)

pub head_given-head-requires : goal.head_given-head-requires
head_given-head-requires c =
    let header = c.header_length-header.ensures.0 ∙ ap header_length c.requires.is in
    record { long = rw header at c.if-file-header.false; is = c.requires.is }

pub returns : goal.returns
unfolding header_why
returns c =
    let header = c.header_length-header.ensures.0 ∙ ap header_length c.requires.is in
    rw (
      eq-eqb (number_at 2 c.args.file.now zero_field) 0 (sym c.number2-zeros.ensures ∙ c.if-zeros-ne0.false),
      le-ltb (length c.args.file.now) (header_length (version_in c.args.file.now)) (rw header at c.if-file-header.false),
    ) c.counts_why.ensures
