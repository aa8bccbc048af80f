-- `wanted::put_place` meets its contract: the lines of the text are the table's rows, which computing shows. Assumes nothing.
use Rattle.grammar.specs.Words.{lines_on}
use Rattle.faults.specs.Wanted.{by_place}
use Rattle.faults.proofs.Tables.{place_short, fits}
use Rattle.faults.proofs.wanted.put_place.Goals as goal

pub put_line-requires : goal.put_line-requires
unfolding lines_on by_place
put_line-requires c = fits _ _ (place_short c.args.place) c.requires

pub returns : goal.returns
unfolding lines_on by_place
returns c = c.put_line.ensures
