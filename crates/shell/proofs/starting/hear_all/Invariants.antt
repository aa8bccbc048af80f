-- `starting::hear_all` meets its contract: the words so far are heard soundly. Assumes nothing.
use Rattle.std.proofs.Common.{◌≤◌, ◌*◌, length, ◌≡◌}
use Rattle.options.specs.Words.{row_length, most_options, Sound}
use Rattle.shell.proofs.starting.hear_all.Given as goal

abbrev pub invariant-loop-i : goal.invariant-loop-i
invariant-loop-i l = record { rows : length l.table ≤ row_length * most_options; room : length l.word ≡ 4096; sound : Sound l.asked }
