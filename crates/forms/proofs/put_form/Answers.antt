-- `put_form` meets its contract: what was passed of the form is filled in, as far as there is room. Assumes nothing.
use native.Mathlib.Omega.{arith}
use Rattle.forms.proofs.Filling.{none_filled, one-filled, all-filled}
use Rattle.forms.proofs.put_form.Goals as goal

pub loop-byte-init : goal.loop-byte-init
loop-byte-init c = none_filled _ _ _ _ c.requires

pub loop-byte-preserved : goal.loop-byte-preserved
loop-byte-preserved c =
    rw c.next-k.ensures (one-filled c.loop-byte.invariant c.loop-byte-test.true (omega (arith, c.put_part-end.auto)) c.put_part-end.ensures)

pub returns : goal.returns
returns c = all-filled c.loop-byte.invariant c.loop-byte-test.false
