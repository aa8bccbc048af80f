-- How far three texts reach, and a word as it is shown. Assumes nothing.
use mathlib.Core.Path.{◌≡◌}
use mathlib.Core.List.{List, ◌++◌}
use Prim.Native.Nat.{ℕ, ◌+◌, ◌≤◌}
use native.Mathlib.Omega.{arith}
use lib.ListN.{length, take, length-append, length-map, length-take}
use Rattle.text.specs.Added.{Added}
use Rattle.saying.specs.Said.{plain, most_shown, shown}

pub three-ends : (a b c : List ℕ) {out after : List ℕ} {at end : ℕ} → Added (a ++ b ++ c) out at after end → end ≡ at + (length a + length b + length c)
three-ends a b c added = omega (arith, added.ends, length-append (a ++ b) c, length-append a b)

pub shown-short : (word : List ℕ) → length (shown word) ≤ most_shown
shown-short word = omega (arith, length-map (take most_shown word) plain, length-take most_shown word)
