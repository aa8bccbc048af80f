-- `loading::foambeetle_worth` meets its contract: the file's worth is told. Assumes nothing.
use mathlib.Core.Path.{ap, ◌∙◌}
use borrow.Author.Rules.{rules}
use Rattle.loading.specs.Outcome.{number_of, ends_after}
use Rattle.loading.proofs.foambeetle_worth.Goals as goal

pub returns : goal.returns
returns c =
    record { number = c.tell.ensures.number ∙ ap number_of c.weigh_file.ensures; ends = c.tell.ensures.ends ∙ ap (λ w. ends_after w c.args.ends.now) c.weigh_file.ensures }
