-- `wanted::put_name` meets its contract: the lines of the text are the table's rows, which computing shows. Assumes nothing.
use Rattle.grammar.specs.Words.{lines_on}
use Rattle.faults.specs.Wanted.{by_name}
use Rattle.faults.proofs.Tables.{name-short, fits}
use Rattle.faults.proofs.wanted.put_name.Goals as goal

pub put_line-requires : goal.put_line-requires
unfolding lines_on by_name
put_line-requires c = fits _ _ (name-short c.args.name) c.requires

pub returns : goal.returns
unfolding lines_on by_name
returns c = c.put_line.ensures
