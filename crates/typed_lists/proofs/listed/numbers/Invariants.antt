-- `listed::numbers` meets its contract: after j turns the first j numbers stand there. Assumes nothing.
use mathlib.Core.List.{List}
use Prim.Native.Nat.{ℕ, ◌*◌}
use lib.ListN.{take}
use Rattle.rules.specs.File.{most_systems, per_system}
use Rattle.grammar.specs.Text.{numbers_of}
use Rattle.typed_lists.specs.Lists.{Stored, Ruled}
use Rattle.typed_lists.proofs.listed.numbers.Given as goal

abbrev pub invariant-loop-j : goal.invariant-loop-j
invariant-loop-j l =
    (list : List (List ℕ)) → Ruled l.fn.systems list → Stored (most_systems * per_system) l.j l.all (take l.j (numbers_of l.fans list))
