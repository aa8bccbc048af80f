-- `put_plain` meets its contract: the buffer begins with the bytes so far as they are shown. Assumes nothing.
use mathlib.Core.Path.{◌≡◌}
use mathlib.Core.List.{map}
use lib.ListN.{take}
use Rattle.saying.specs.Said.{plain}
use Rattle.saying.proofs.put_plain.Given as goal

abbrev pub invariant-loop-k : goal.invariant-loop-k
invariant-loop-k l = take l.k l.out ≡ map plain (take l.k l.word)
