-- `shown::put_plain` meets its contract: what stood in front of its place stands there, and behind it the bytes so far, each a plain character. Assumes nothing.
use mathlib.Core.Path.{◌≡◌}
use mathlib.Core.List.{◌++◌, map}
use Prim.Native.Nat.{◌+◌}
use lib.ListN.{take}
use Rattle.faults.specs.Told.{plain}
use Rattle.faults.proofs.shown.put_plain.Given as goal

abbrev pub invariant-loop-k : goal.invariant-loop-k
invariant-loop-k l = take (l.at + l.k) l.out ≡ take l.at l.initial.out ++ map plain (take l.k l.word)
