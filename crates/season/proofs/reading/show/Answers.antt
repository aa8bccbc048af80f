-- `reading::show` meets its contract: what is told fits its line. Assumes nothing.
use mathlib.Core.Path.{sym}
use lib.Seq.{length-take-le}
use Rattle.season.proofs.reading.show.Goals as goal

pub slice_bounds-say-end : goal.slice_bounds-say-end
slice_bounds-say-end c = sym (length-take-le _ _ c.put_named-end.ensures.number_put.within)
