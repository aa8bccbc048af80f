-- `lines::list_front` meets its contract: what is printed for the front is printed for the input. Assumes nothing.
use Rattle.printing.proofs.Printed.{whole-worded}
use Rattle.decklist.specs.Lines.{list_text}
use Rattle.decklist.proofs.lines.list_front.Goals as goal

pub returns : goal.returns
returns c =
    whole-worded c.args.words (list_text c.args.percent c.args.words) c.front_of.ensures c.put_file.ensures
