-- `office::foambeetle_chance_between` tells the doubles nearest about the chance of the file's system. Assumes nothing.
use borrow.Author.Rules.{rules}
use Rattle.rules.specs.File.{loading_of}
use Rattle.between.specs.Outcome.{Below, Above}
use Rattle.office.proofs.Doubles.{handed}
use Rattle.office.proofs.foambeetle_chance_between.Goals as goal

pub returns : goal.returns
returns c =
    record { answer = rw (c.tell.ensures.number, c.tell.ensures.ends) (handed (Below c.args.file.now) (Above c.args.file.now) (loading_of c.args.file.now c.args.system) _ c.args.ends.now c.chance_between.ensures.answer) }
