-- `ending::unplaced` meets its contract: after i turns what was told is what is told of the first i fans. Assumes nothing.
use lib.ListN.{take}
use Rattle.listing.proofs.Passing.{Passing}
use Rattle.listing.proofs.ending.unplaced.Given as goal

abbrev pub invariant-loop-i : goal.invariant-loop-i
invariant-loop-i l =
    Passing l.g (take l.fn.fans.count l.boards) (take l.fn.fans.count l.lines) l.initial.passed.told l.initial.out l.passed l.out l.i
