-- `office::foambeetle_rate_doubles` packs the rating that is asked: every one can be packed. Assumes nothing.
use mathlib.Core.Path.{ap, ◌∙◌}
use borrow.Author.Rules.{rules}
use Rattle.rules.specs.File.{packed}
use Rattle.packing.proofs.Packed.{planned-packable}
use Rattle.office.proofs.foambeetle_rate_doubles.Goals as goal

pub pack-requires : goal.pack-requires
pack-requires c = rw c.answer.ensures (planned-packable _ _)

pub returns : goal.returns
returns c = record { number = c.pack.ensures ∙ ap packed c.answer.ensures }
