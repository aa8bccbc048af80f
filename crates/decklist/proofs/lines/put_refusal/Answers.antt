-- `lines::put_refusal` meets its contract: the line is put with the cause that was found. Assumes nothing.
use Rattle.decklist.proofs.lines.put_refusal.Goals as goal

pub returns : goal.returns
returns c =
    rw c.system_why-why.ensures at c.put_worded.ensures
