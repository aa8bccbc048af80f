-- A pair of places of a stretch that a spare can be tried in is within the unit. Assumes nothing.
use Prim.Native.Nat.{ℕ, ◌+◌, ◌≤◌}
use mathlib.Core.Path.{◌≡◌}
use mathlib.Core.Bool.{false, true}
use Rattle.rules.specs.State.{S}
use Rattle.rules.specs.Asked.{Asked}
use Rattle.rules.specs.Worth.{swapped}
use Rattle.rules.specs.Gain.{swapped_both}
use Rattle.rules.proofs.Sure.{swapped-accepted}
use Rattle.rules.proofs.Gain.{figures-within}
use Rattle.swaps.proofs.Replaced.{within-most}
use Rattle.spares.specs.Places.{spare_refusal}
use Rattle.spares.proofs.Rating.{clear, accepted, small}
use Rattle.pairs.specs.Pairs.{low_with_both, high_with_both}

pub pair-within : (q : Asked) (p : ℕ) → spare_refusal q p ≡ 0 → (i j : ℕ) → (low_with_both q p i j ≤ S) × (high_with_both q p i j ≤ S)
pair-within q p none i j =
    let one = swapped-accepted q clear (q.a + i) p (accepted q p none) (small q p none) in
    let two = swapped-accepted (swapped (q.a + i) p q) clear (q.a + j) p one (small q p none) in
    let both = swapped_both (q.a + i) (q.a + j) p q in
    (within-most both (figures-within both clear two false), within-most both (figures-within both clear two true))
