-- `listed::plus` meets its contract: a turn stores one of the six numbers behind those before it. Assumes nothing.
use mathlib.Core.List.{List, ◌++◌}
use Prim.Native.Nat.{ℕ, ◌+◌, ◌*◌}
use lib.ListN.{take}
use Rattle.rules.specs.File.{most_systems}
use Rattle.typed_lists.specs.Lists.{Stored, per_listed, six_of}
use Rattle.typed_lists.proofs.listed.plus.Given as goal

abbrev pub invariant-loop-k : goal.invariant-loop-k
invariant-loop-k l =
    (list : List ℕ) → Stored (most_systems * per_listed) l.at l.initial.numbers list → Stored (most_systems * per_listed) (l.at + l.k) l.numbers (list ++ take l.k (six_of l.set))
