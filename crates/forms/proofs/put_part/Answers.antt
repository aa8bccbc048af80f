-- `put_part` meets its contract, by whether the byte is a mark. Assumes nothing.
use borrow.Author.Tests.{eq-eqb, ne_eqb}
use Rattle.forms.specs.Form.{mark}
use Rattle.forms.proofs.put_part.Goals as goal

pub returns-then-byte-eq-MARK : goal.returns-then-byte-eq-MARK
returns-then-byte-eq-MARK c =
    rw (eq-eqb c.args.byte mark c.if-byte-eq-MARK.true) c.put_mark.ensures

pub returns : goal.returns
returns c =
    rw (ne_eqb c.args.byte mark c.if-byte-eq-MARK.false) c.put_byte.ensures
