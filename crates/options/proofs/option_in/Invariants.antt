-- `option_in` meets its contract: no row passed has the word for its name, so the rest tells. Assumes nothing.
use mathlib.Core.Path.{◌≡◌}
use Prim.Native.Nat.{◌-◌}
use Rattle.options.specs.Words.{rows_of, option_from, option_in}
use Rattle.options.proofs.option_in.Given as goal

abbrev pub invariant-loop-k : goal.invariant-loop-k
invariant-loop-k l = option_from (rows_of l.table - l.k) l.k l.table l.word ≡ option_in l.table l.word
