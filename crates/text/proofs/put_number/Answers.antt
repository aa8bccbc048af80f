-- `text::put_number` meets its contract: what `io::decimal` wrote is put, and is the number's decimal digits. Assumes nothing.
use mathlib.Core.Path.{◌∙◌}
use Rattle.text.proofs.Digits.{fewest-decimal}
use Rattle.text.proofs.put_number.Goals as goal

pub returns : goal.returns
returns c =
    rw (c.decimal-k.ensures.digits ∙ fewest-decimal _ _ c.ranges.n.fits c.decimal-k.ensures.len) at c.put.ensures
