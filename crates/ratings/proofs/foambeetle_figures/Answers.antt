-- `ratings::foambeetle_figures` meets its contract: every answer of the figures can be packed. Assumes nothing.
use mathlib.Core.Path.{ap, ◌∙◌}
use borrow.Author.Rules.{rules}
use Rattle.rules.specs.File.{packed}
use Rattle.figures.proofs.Outcome.{figures-are}
use Rattle.packing.proofs.Packed.{figures-packable}
use Rattle.ratings.proofs.foambeetle_figures.Goals as goal

pub pack-requires : goal.pack-requires
pack-requires c = rw (figures-are c.figures.ensures) (figures-packable _ _)

pub returns : goal.returns
returns c =
    let e = rw c.rule_of-rule.ensures at c.figures.ensures in
    record { answer = c.pack.ensures ∙ ap packed (figures-are e); table = e.table }
