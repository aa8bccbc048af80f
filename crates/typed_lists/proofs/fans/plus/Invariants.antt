-- `fans::plus` meets its contract: after i turns there are i fans more. Assumes nothing.
use Rattle.typed_lists.specs.Lists.{MoreFans}
use Rattle.typed_lists.proofs.fans.plus.Given as goal

abbrev pub invariant-loop : goal.invariant-loop
invariant-loop l = MoreFans l.initial.all l.all l.counter l.parts l.weight l.board l.line
