-- `told::plus` meets its contract: after twenty nothing is told, before that the fault's line. Assumes nothing.
use native.Mathlib.Omega.{arith}
use Rattle.typed_lists.proofs.Telling.{told-full, told_more}
use Rattle.typed_lists.proofs.told.plus.Goals as goal

pub returns-then-told-ge-MOST_TOLD : goal.returns-then-told-ge-MOST_TOLD
returns-then-told-ge-MOST_TOLD c =
    told-full _ c.requires c.if-told-ge-MOST_TOLD.true

pub put_fault-end-requires : goal.put_fault-end-requires
put_fault-end-requires c =
    omega (arith, c.if-told-ge-MOST_TOLD.false, c.requires)

pub returns : goal.returns
returns c =
    told_more _ _ c.if-told-ge-MOST_TOLD.false c.put_fault-end.ensures (omega (arith, c.put_fault-end.auto)) c.requires
