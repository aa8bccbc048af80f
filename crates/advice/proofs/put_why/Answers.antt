-- `put_why` meets its contract: the cause's form is filled in. Assumes nothing.
use Rattle.advice.proofs.Worded.{worded}
use Rattle.advice.proofs.put_why.Goals as goal

pub returns : goal.returns
returns c = worded c.args.why c.form_of.ensures c.numbers_of.ensures c.put_form.ensures
