-- `file::laid_why` takes the tests of the definition of that name. Assumes nothing.
use mathlib.Core.Path.{sym, ap, ◌∙◌}
use lib.ListN.{length}
use borrow.Author.Tests.{lt-ltb, le-ltb}
use Rattle.rules.specs.File.{file_length, length_in}
use Rattle.advice.specs.Words.{because}
use Rattle.advice.specs.File.{laid_why}
use Rattle.advice.specs.declared.cause.Cause.TheVariants.{EndsEarly, BoardPastLast}
use Rattle.advice.proofs.file.laid_why.Goals as goal

pub returns-then-file-length : goal.returns-then-file-length
unfolding laid_why
returns-then-file-length c =
    let ends = c.length_given-length.ensures ∙ (λ x. file_length (c.requires.says.version x) (c.requires.says.fans x) (c.requires.says.boards x) (c.requires.says.systems x)) in
    rw (lt-ltb (length c.args.file.now) (length_in c.args.file.now) (rw ends at c.if-file-length.true)) (c.because.ensures ∙ ap (λ x. because EndsEarly (length c.args.file.now) x 0 0) ends)

pub returns-then-bad_layout : goal.returns-then-bad_layout
unfolding laid_why
returns-then-bad_layout c =
    let ends = c.length_given-length.ensures ∙ (λ x. file_length (c.requires.says.version x) (c.requires.says.fans x) (c.requires.says.boards x) (c.requires.says.systems x)) in
    rw (le-ltb (length c.args.file.now) (length_in c.args.file.now) (rw ends at c.if-file-length.false), sym c.bad_layout.ensures ∙ c.if-bad_layout.true) c.because-then-bad_layout.ensures

pub returns : goal.returns
unfolding laid_why
returns c =
    let ends = c.length_given-length.ensures ∙ (λ x. file_length (c.requires.says.version x) (c.requires.says.fans x) (c.requires.says.boards x) (c.requires.says.systems x)) in
    rw (le-ltb (length c.args.file.now) (length_in c.args.file.now) (rw ends at c.if-file-length.false), sym c.bad_layout.ensures ∙ c.if-bad_layout.false)
    (c.because-2.ensures ∙ ap (λ g. because BoardPastLast g 0 0 0) c.requires.says.boards)
