-- `mix_board` meets its contract: the sets that were passed are mixed, and the others stand as they were. Assumes nothing.
use lib.ListN.{get_or}
use Rattle.units.specs.Step.{whole}
use Rattle.boards.proofs.Working.{Mixing}
use Rattle.boards.proofs.mix_board.Given as goal

abbrev pub invariant-loop-j : goal.invariant-loop-j
invariant-loop-j l = Mixing (whole l.decimal) (get_or l.switchboards l.b 0) l.half l.initial.low l.initial.high l.low l.high l.j
