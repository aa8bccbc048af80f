-- `hand_fed` meets its contract: the status goes by the file that is made of the bytes that are held. Assumes nothing.
use mir.Facts.{to_z-of_z}
use mir.Syntax.{w32}
use borrow.Author.Rules.{sfits_of}
use Rattle.deckmake.proofs.hand_fed.Goals as goal

pub returns : goal.returns
returns c =
    let same = to_z-of_z {w = w32} {z = c.hand_over.result} (sfits_of c.hand_over.type_inv) in
    record { ends_by = λ bytes h. rw (same, ← (c.make_fed-made.ensures.stands bytes h).0) c.hand_over.ensures.handed; status = rw same c.hand_over.ensures.status }
