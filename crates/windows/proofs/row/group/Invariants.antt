-- `group` works one pattern more a turn. Assumes nothing.
use Rattle.units.specs.Step.{whole}
use Rattle.windows.specs.Groups.{list_at}
use Rattle.windows.specs.Row.{Partly}
use Rattle.windows.proofs.row.group.Given as goal

abbrev pub invariant-loop-j : goal.invariant-loop-j
invariant-loop-j l = Partly (whole l.decimal) l.must l.worse (list_at l.must l.worse) l.p.0 l.oldest l.from l.j l.initial.table l.table
