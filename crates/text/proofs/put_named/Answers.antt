-- `text::put_named` meets its contract: one is put after the other. Assumes nothing.
use Rattle.text.proofs.put_named.Goals as goal

pub returns : goal.returns
returns c =
    record {
      between = _;
      place = _;
      name_put = c.put-end.ensures;
      number_put = c.put_number.ensures;
    }
