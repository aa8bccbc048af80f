-- `options::same` meets its contract: two slices are equal where the definition says so. Assumes nothing.
use mathlib.Core.Path.{◌∙◌}
use Rattle.options.proofs.Texts.{pointwise-same}
use Rattle.options.proofs.same.Goals as goal

pub returns : goal.returns
returns c = c.eq.ensures ∙ pointwise-same _ _
