-- `finish_two` meets its contract: the front is refused as the whole input is. Assumes nothing.
use mir.Syntax.{w32}
use mir.ValLaws.{to_z-of_z}
use Rattle.printing.proofs.Printed.{ends-refused}
use mathlib.Core.Path.{refl}
use Rattle.printing.proofs.finish_two.Goals as goal

pub returns : goal.returns
returns c =
    let same = to_z-of_z w32 c.print_two.result (record { sfits = c.print_two.type_inv }) in
    rw same record { ends = ends-refused c.refused-refused.ensures refl c.print_two.ensures.or_failed; status = c.print_two.ensures.status }
