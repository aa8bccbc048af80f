-- `sort` begins with empty lists and places one pattern more a turn. Assumes nothing.
use Rattle.windows.specs.Groups.{Placed}
use Rattle.windows.proofs.groups.sort.Given as goal

abbrev pub invariant-loop-x : goal.invariant-loop-x
invariant-loop-x l = Placed l.first l.second l.more l.x l.initial.table l.table
