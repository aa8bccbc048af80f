-- `showing::show_front` meets its contract: what is printed for the front is printed for the input. Assumes nothing.
use Rattle.printing.proofs.Printed.{whole-printed}
use Rattle.deckshow.specs.Lines.{show_text}
use Rattle.deckshow.proofs.showing.show_front.Goals as goal

pub returns : goal.returns
returns c = whole-printed show_text c.front_of.ensures c.put_file.ensures
