-- `mend::changed_in` meets its contract: the header by itself has all changes. Assumes nothing.
use mathlib.Core.Path.{ap, ap₂, ◌∙◌}
use native.Mathlib.Omega.{arith}
use lib.ListN.{length, replicate}
use Rattle.rules.specs.Below.{held}
use Rattle.rules.specs.File.{header_length}
use Rattle.rules.specs.Mending.{differs}
use Rattle.rules.proofs.Changes.{count_most}
use Rattle.writer.specs.Laid.{laid}
use Rattle.mend.specs.Outcome.{longest_header}
use Rattle.mend.proofs.Mendable.{mendable}
use Rattle.mend.proofs.Looking.{sized, header-own}
use Rattle.mend.proofs.Heading.{alone-length, count-alone}
use borrow.Author.Rules.{rules}
use Rattle.mend.proofs.changed_in.Goals as goal

pub header_for-header-requires : goal.header_for-header-requires
header_for-header-requires c = sized c.requires

pub changed-requires : goal.changed-requires
changed-requires c =
    let upto = c.header_given-upto.ensures.0 ∙ ap header_length c.requires.says.version in
    let new = c.header_for-header.ensures ∙ ap (λ h. laid 0 h (replicate longest_header 0)) (header-own c.requires) in (
      omega (arith, upto, (mendable c.args.bytes.now c.requires.none).long),
      omega (arith, c.header_given-upto.ensures.1, ap length new ∙ alone-length c.args.bytes.now c.requires.none),
    )

pub returns : goal.returns
returns c =
    let upto = c.header_given-upto.ensures.0 ∙ ap header_length c.requires.says.version in
    let new = c.header_for-header.ensures ∙ ap (λ h. laid 0 h (replicate longest_header 0)) (header-own c.requires) in (
      c.changed.ensures ∙ ap₂ (λ new k. held (differs c.args.bytes.now new) k) new upto ∙ count-alone c.args.bytes.now c.requires.none,
      omega (arith, c.changed.ensures, count_most c.args.bytes.now c.header_for-header.result c.header_given-upto.result, c.header_given-upto.ensures.1),
    )
