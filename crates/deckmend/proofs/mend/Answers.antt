-- `mend` meets its contract: of a refused input there is no file. Assumes nothing.
use mir.Syntax.{w32}
use mir.ValLaws.{to_z-of_z}
use Rattle.deckmend.proofs.Whole.{mended-ends}
use Rattle.deckmend.proofs.mend.Goals as goal

pub returns : goal.returns
returns c =
    let same = to_z-of_z w32 c.hand_over.result (record { sfits = c.hand_over.type_inv }) in
    rw same record { ends = mended-ends c.mend_front-told.ensures c.hand_over.ensures.handed; status = c.hand_over.ensures.status }
