-- `mend::put_list` meets its contract: the header by itself has all changes. Assumes nothing.
use mathlib.Core.Path.{ap, ap₂, ◌∙◌}
use native.Mathlib.Omega.{arith}
use lib.ListN.{length, replicate}
use Rattle.rules.specs.Below.{held}
use Rattle.rules.specs.File.{header_length}
use Rattle.rules.specs.Mending.{differs, changes_below}
use Rattle.writer.specs.Laid.{laid}
use Rattle.mend.specs.Outcome.{longest_header}
use Rattle.mend.proofs.Mendable.{mendable}
use Rattle.mend.proofs.Looking.{sized, header-own}
use Rattle.mend.proofs.Heading.{alone-length, list-alone, count-alone}
use borrow.Author.Rules.{rules}
use Rattle.mend.proofs.put_list.Goals as goal

pub header_for-header-requires : goal.header_for-header-requires
header_for-header-requires c = sized c.requires.looked

pub put_changes-requires : goal.put_changes-requires
put_changes-requires c =
    let upto = c.header_given-upto.ensures.0 ∙ ap header_length c.requires.looked.says.version in
    let new = c.header_for-header.ensures ∙ ap (λ h. laid 0 h (replicate longest_header 0)) (header-own c.requires.looked) in
    let count = ap₂ (λ new k. held (differs c.args.bytes.now new) k) new upto ∙ count-alone c.args.bytes.now c.requires.looked.none in record {
      places = (
        omega (arith, upto, (mendable c.args.bytes.now c.requires.looked.none).long),
        omega (arith, c.header_given-upto.ensures.1, ap length new ∙ alone-length c.args.bytes.now c.requires.looked.none),
      );
      fits = rw count c.requires.fits;
    }

pub returns : goal.returns
returns c =
    let upto = c.header_given-upto.ensures.0 ∙ ap header_length c.requires.looked.says.version in
    let new = c.header_for-header.ensures ∙ ap (λ h. laid 0 h (replicate longest_header 0)) (header-own c.requires.looked) in
    let list = ap₂ (λ new k. changes_below c.args.bytes.now new k) new upto ∙ list-alone c.args.bytes.now c.requires.looked.none in
    c.put_changes.ensures ∙ ap (λ changes. laid 0 changes c.args.list.now) list
