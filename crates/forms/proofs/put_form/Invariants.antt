-- `put_form` meets its contract: what was passed of the form is filled in, as far as there is room. Assumes nothing.
use Rattle.forms.proofs.Filling.{Filled}
use Rattle.forms.proofs.put_form.Given as goal

abbrev pub invariant-loop-byte : goal.invariant-loop-byte
invariant-loop-byte l = Filled l.form l.numbers l.initial.out l.at l.out l.end l.k l.byte-index
