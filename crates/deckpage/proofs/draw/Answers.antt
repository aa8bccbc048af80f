-- `draw` meets its contract: a refused input ends as one, on the page or in a line. Assumes nothing.
use mathlib.Core.Path.{refl}
use mathlib.Core.Logic.{inl}
use mir.Syntax.{w32}
use mir.ValLaws.{to_z-of_z}
use Rattle.printing.proofs.Printed.{ends-refused}
use Rattle.deckpage.proofs.draw.Goals as goal

pub returns-then-refused : goal.returns-then-refused
returns-then-refused c =
    let same = to_z-of_z w32 c.tell_refused.result (record { sfits = c.tell_refused.type_inv }) in
    rw (same, c.tell_refused.ensures) record { ends = ends-refused c.refused.ensures c.if-refused.true (inl refl); status = refl }
