-- `numbers::whole` meets its contract: a turn takes a digit more. Assumes nothing.
use mathlib.Core.Path.{◌≡◌}
use Prim.Native.Nat.{◌≤◌}
use lib.ListN.{drop}
use Rattle.grammar.specs.Numbers.{none, whole, digits_on}
use Rattle.grammar.proofs.numbers.whole.Given as goal

abbrev pub invariant-loop-b : goal.invariant-loop-b
invariant-loop-b l = (l.number ≤ none) × (whole l.word ≡ digits_on l.number (drop l.b-index l.word))
