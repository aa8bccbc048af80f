-- `put_mark` meets its contract, by whether there is such a number. Assumes nothing.
use borrow.Author.Tests.{lt-ltb, le-ltb}
use Rattle.text.proofs.Adding.{put-added, none-added}
use Rattle.forms.specs.Form.{most_marks}
use Rattle.forms.proofs.put_mark.Goals as goal

pub returns-then-k-ge-MARKS : goal.returns-then-k-ge-MARKS
returns-then-k-ge-MARKS c =
    rw (le-ltb c.args.k most_marks c.if-k-ge-MARKS.true) (record { within = c.requires; added = λ room. none-added _ _ })

pub returns : goal.returns
returns c =
    rw (lt-ltb c.args.k most_marks c.if-k-ge-MARKS.false) (record { within = c.put_number.ensures.within; added = λ room. put-added room c.put_number.ensures })
