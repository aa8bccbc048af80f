-- `lines::list_front` meets its contract: what is printed for the front is printed for the input. Assumes nothing.
use Rattle.printing.proofs.Printed.{whole-printed}
use Rattle.deckspare.specs.Lines.{list_text}
use Rattle.deckspare.proofs.lines.list_front.Goals as goal

pub returns : goal.returns
returns c =
    whole-printed (list_text c.args.word.now c.args.wanted) c.front_of.ensures c.put_file.ensures
