-- The places of a stretch from the best on, ties told as ties. Of the places that are left, L is the highest lower end of a gain; every one whose upper end is not below L
-- is alike with the best; then the same among the rest. A place's gain has the lower end low less the high before and the upper end high less the low before.
use Rattle.std.specs.Prelude.{ℕ, zero, suc, ◌+◌, Bool, true, false, not, ◌&&◌, List, ℤ, get_or}
use Rattle.std.proofs.Math.IntN.{sub_ℕ}
use Rattle.std.specs.Int.Signed.{le_z}
use Rattle.rules.specs.Below.{held}
use Rattle.places.specs.declared.Ends.{Ends}
use Rattle.spares.specs.Highest.{highest}

-- so many places, the figures with the spare in each, and the figures as they are
pub record Ranked : Type 0 where
  pub size : ℕ
  pub low : ℕ → ℕ
  pub high : ℕ → ℕ
  pub before : Ends

-- a place's gain
abbrev pub lower_at : Ranked → ℕ → ℤ
lower_at k i = sub_ℕ (k.low i) k.before.high

abbrev pub upper_at : Ranked → ℕ → ℤ
upper_at k i = sub_ℕ (k.high i) k.before.low

-- L, the highest lower end of the places that are left: that of the highest low
abbrev pub leading : Ranked → (left : ℕ → Bool) → ℤ
leading k left = sub_ℕ (highest k.low left k.size) k.before.high

-- is a place's upper end not below L? the group of those, and the rest
abbrev pub reaches : Ranked → (left : ℕ → Bool) (i : ℕ) → Bool
reaches k left i = le_z (leading k left) (upper_at k i)

abbrev pub alike : Ranked → (left : ℕ → Bool) (i : ℕ) → Bool
alike k left i = left i && reaches k left i

abbrev pub rest : Ranked → (left : ℕ → Bool) (i : ℕ) → Bool
rest k left i = left i && not (reaches k left i)

-- which are left after r groups, and how many are not
unfoldable pub left_after : Ranked → (r : ℕ) → ℕ → Bool
left_after k zero = λ i. true
left_after k (suc r) = rest k (left_after k r)

abbrev pub group_at : Ranked → (r : ℕ) → ℕ → Bool
group_at k r = alike k (left_after k r)

unfoldable pub gone_after : Ranked → (r : ℕ) → ℕ
gone_after k zero = 0
gone_after k (suc r) = gone_after k r + held (group_at k r) k.size

-- the places that an array has as left
abbrev pub left_in : List Bool → ℕ → Bool
left_in left i = get_or left i false
