-- `file::counts_why` takes the tests of the definition of that name. Assumes nothing.
use mathlib.Core.Path.{sym, ap, ◌∙◌}
use mathlib.Core.Bool.{not}
use Rattle.rules.specs.Below.{within}
use Rattle.rules.specs.Refusal.{bad_size, bad_boards}
use Rattle.rules.specs.File.{most_systems}
use Rattle.advice.specs.Words.{because}
use Rattle.advice.specs.File.{counts_why}
use Rattle.advice.specs.declared.cause.Cause.TheVariants.{FansOut, SystemsOut, BoardsOut}
use Rattle.advice.proofs.file.counts_why.Goals as goal

pub returns-then-size_out : goal.returns-then-size_out
unfolding counts_why
returns-then-size_out c =
    let fans = sym (c.size_out.ensures ∙ ap bad_size c.requires.says.fans) in
    rw (fans ∙ c.if-size_out.true) (c.because.ensures ∙ ap (λ n. because FansOut n 0 0 0) c.requires.says.fans)

pub returns-then-outside : goal.returns-then-outside
unfolding counts_why
returns-then-outside c =
    let fans = sym (c.size_out.ensures ∙ ap bad_size c.requires.says.fans) in
    let systems = sym (c.outside.ensures ∙ ap (λ m. not (within 1 m most_systems)) c.requires.says.systems) in
    rw (fans ∙ c.if-size_out.false, systems ∙ c.if-outside.true) (c.because-then-outside.ensures ∙ ap (λ m. because SystemsOut m 0 0 0) c.requires.says.systems)

pub returns-then-boards_out : goal.returns-then-boards_out
unfolding counts_why
returns-then-boards_out c =
    let fans = sym (c.size_out.ensures ∙ ap bad_size c.requires.says.fans) in
    let systems = sym (c.outside.ensures ∙ ap (λ m. not (within 1 m most_systems)) c.requires.says.systems) in
    let boards = sym (c.boards_out.ensures ∙ (λ i. bad_boards (c.requires.says.version i) (c.requires.says.boards i))) in
    rw (fans ∙ c.if-size_out.false, systems ∙ c.if-outside.false, boards ∙ c.if-boards_out.true)
    (c.because-then-boards_out.ensures ∙ ap (λ g. because BoardsOut g 0 0 0) c.requires.says.boards)

pub returns : goal.returns
unfolding counts_why
returns c =
    let fans = sym (c.size_out.ensures ∙ ap bad_size c.requires.says.fans) in
    let systems = sym (c.outside.ensures ∙ ap (λ m. not (within 1 m most_systems)) c.requires.says.systems) in
    let boards = sym (c.boards_out.ensures ∙ (λ i. bad_boards (c.requires.says.version i) (c.requires.says.boards i))) in
    rw (fans ∙ c.if-size_out.false, systems ∙ c.if-outside.false, boards ∙ c.if-boards_out.false) c.laid_why.ensures
