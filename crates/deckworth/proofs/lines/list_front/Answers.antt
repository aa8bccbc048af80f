-- `lines::list_front` meets its contract: what is printed for the front is printed for the input. Assumes nothing.
use Rattle.deckworth.proofs.Halves.{whole-in-two}
use Rattle.deckworth.proofs.lines.list_front.Goals as goal

pub returns : goal.returns
returns c =
    whole-in-two c.args.words c.front_of.ensures c.put_file.ensures
