-- `on_grid` compares the two whole numbers, which are one exactly where nothing is lost. Assumes nothing.
use Rattle.std.proofs.Common.{eqb, ◌∙◌, ap₂}
use Rattle.rules.proofs.Grid.{grid-test}
use Rattle.doubles.specs.Floats.{bits}
use Rattle.doubles.proofs.on_grid.Goals as goal

pub returns : goal.returns
returns c = ap₂ eqb c.whole.ensures c.whole-2.ensures ∙ grid-test (bits c.args.x)
