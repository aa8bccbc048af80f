-- `put_file` meets its contract: a file that is not refused has a head. Assumes nothing.
use Rattle.deck.proofs.Outcome.{opened-headed}
use Rattle.deckpage.proofs.put_file.Goals as goal

pub put_page-requires : goal.put_page-requires
put_page-requires c =
    opened-headed c.in-Ok.ensures
