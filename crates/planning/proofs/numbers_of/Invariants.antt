-- `numbers_of` has the whole numbers of the floats that it passed in their places. Assumes nothing.
use Prim.Native.Nat.{ℕ, ◌+◌, ◌<◌}
use mathlib.Core.Path.{◌≡◌}
use lib.ListN.{length, get_or}
use Rattle.rules.specs.Refusal.{most}
use Rattle.rules.specs.Doubles.{whole_of}
use Rattle.doubles.specs.Floats.{bits_of}
use Rattle.planning.proofs.numbers_of.Given as goal

abbrev pub invariant-loop-i : goal.invariant-loop-i
invariant-loop-i l =
    (length l.numbers ≡ most) × ((k : ℕ) → k < l.i → get_or l.numbers (l.from + k) 0 ≡ whole_of l.up (get_or (bits_of l.floats) k 0))
