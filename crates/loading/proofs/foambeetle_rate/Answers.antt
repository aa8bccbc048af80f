-- `loading::foambeetle_rate` meets its contract: every answer of a file can be packed. Assumes nothing.
use mathlib.Core.Path.{ap, ◌∙◌}
use borrow.Author.Rules.{rules}
use Rattle.rules.specs.File.{packed}
use Rattle.loading.proofs.Packed.{loading-packable}
use Rattle.loading.proofs.foambeetle_rate.Goals as goal

pub pack-requires : goal.pack-requires
pack-requires c = rw c.rate_file.ensures (loading-packable _ _)

pub returns : goal.returns
returns c = record { number = c.pack.ensures ∙ ap packed c.rate_file.ensures }
