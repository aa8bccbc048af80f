-- `row_is` meets its contract: the bytes passed are the same, so the rest tells. Assumes nothing.
use mathlib.Core.Path.{◌≡◌}
use Prim.Native.Nat.{◌-◌, ◌*◌}
use Rattle.options.specs.Words.{name_length, row_length, same_from}
use Rattle.options.proofs.row_is.Given as goal

abbrev pub invariant-loop-j : goal.invariant-loop-j
invariant-loop-j l = same_from (name_length - l.j) l.j l.table (row_length * l.k) l.word ≡ same_from name_length 0 l.table (row_length * l.k) l.word
