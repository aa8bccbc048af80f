-- `plus_systems` meets its contract: the totals so far are those with the systems passed. Assumes nothing.
use mathlib.Core.Path.{◌≡◌}
use Rattle.totals.specs.Plus.{systems_plus}
use Rattle.season_files.proofs.plus_systems.Given as goal

abbrev pub invariant-loop-s : goal.invariant-loop-s
invariant-loop-s l = l.sum ≡ systems_plus l.initial.sum l.file l.s
