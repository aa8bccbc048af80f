-- `finish` meets its contract: the front is refused as the whole input is. Assumes nothing.
use mir.Syntax.{w32}
use mir.ValLaws.{to_z-of_z}
use Rattle.printing.proofs.Printed.{ends-refused}
use Rattle.printing.proofs.finish.Goals as goal

pub returns-then-refused : goal.returns-then-refused
returns-then-refused c =
    let same = to_z-of_z w32 c.print.result (record { sfits = c.print.type_inv }) in
    rw same record { ends = ends-refused c.refused.ensures c.if-refused.true c.print.ensures.or_failed; status = c.print.ensures.status }

pub returns : goal.returns
returns c =
    let same = to_z-of_z w32 c.print-2.result (record { sfits = c.print-2.type_inv }) in
    rw same record { ends = ends-refused c.refused.ensures c.if-refused.false c.print-2.ensures.or_failed; status = c.print-2.ensures.status }
