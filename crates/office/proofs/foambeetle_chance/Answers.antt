-- `office::foambeetle_chance` tells the chance of the file's system. Assumes nothing.
use borrow.Author.Rules.{rules}
use Rattle.rules.specs.Doubles.{export_of}
use Rattle.doubles.specs.Floats.{Over}
use Rattle.office.proofs.Doubles.{handed}
use Rattle.office.proofs.foambeetle_chance.Goals as goal

pub returns : goal.returns
returns c =
    record { answer = rw (c.tell.ensures.number, c.tell.ensures.ends) (handed Over Over (export_of c.args.file.now c.args.system) _ c.args.ends.now c.chance_of.ensures.answer) }
