-- `next` meets its contract, by whether the byte is a mark. Assumes nothing.
use mathlib.Core.Path.{refl}
use native.Mathlib.Omega.{arith}
use borrow.Author.Tests.{eq-eqb, ne_eqb}
use Rattle.forms.specs.Form.{mark}
use Rattle.forms.proofs.next.Goals as goal

pub returns-then-byte-eq-MARK : goal.returns-then-byte-eq-MARK
returns-then-byte-eq-MARK c = rw (eq-eqb c.args.byte mark c.if-byte-eq-MARK.true) (omega arith)

pub returns-else-byte-eq-MARK : goal.returns-else-byte-eq-MARK
returns-else-byte-eq-MARK c = rw (ne_eqb c.args.byte mark c.if-byte-eq-MARK.false) refl
