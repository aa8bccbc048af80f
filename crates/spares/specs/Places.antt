-- The figures of a stretch as they are, and with a spare in each of its places; and when they are refused.
use Rattle.std.specs.Prelude.{ℕ, ◌+◌, ◌≤◌, ◌≡◌, cond, List, ltb, length, get_or, replicate}
use Rattle.rules.specs.State.{S}
use Rattle.rules.specs.Asked.{Asked, size_of, low_of, high_of}
use Rattle.rules.specs.Refusal.{most, cells, rating_refusal}
use Rattle.rules.specs.Worth.{swapped}
use Rattle.rules.specs.Gain.{spare_above}
use Rattle.places.specs.declared.Ends.{Ends}
use Rattle.spares.specs.declared.Places.{Places}

-- the figures' refusals with P among the numbers of 4, over a working table that the caller brings
abbrev pub spare_refusal : Asked → (p : ℕ) → ℕ
spare_refusal q p = rating_refusal (spare_above q p) q (replicate cells 0)

-- low and high as they are
pub record AsItIs (q : Asked) (r : Ends) : Type 0 where
  pub low : r.low ≡ low_of q
  pub high : r.high ≡ high_of q
  pub within : (r.low ≤ S) × (r.high ≤ S)

-- what a stretch's i-th place has, counted from 0, and 0 behind the first k
abbrev pub up_to : (k : ℕ) (f : ℕ → ℕ) (i : ℕ) → ℕ
up_to k f i = cond (ltb i k) (f i) 0

abbrev pub low_with : Asked → (p i : ℕ) → ℕ
low_with q p i = low_of (swapped (q.a + i) p q)

abbrev pub high_with : Asked → (p i : ℕ) → ℕ
high_with q p i = high_of (swapped (q.a + i) p q)

-- the first k places of a stretch, rated with the spare in each
pub record Rated (q : Asked) (p k : ℕ) (lows highs : List ℕ) : Type 0 where
  pub long : (length lows ≡ most) × (length highs ≡ most)
  pub low : (i : ℕ) → get_or lows i 0 ≡ up_to k (low_with q p) i
  pub high : (i : ℕ) → get_or highs i 0 ≡ up_to k (high_with q p) i
  pub within : (i : ℕ) → (get_or lows i 0 ≤ S) × (get_or highs i 0 ≤ S)

-- all of them
abbrev pub Placed : (q : Asked) (p : ℕ) → Places → Type 0
Placed q p r = Rated q p (size_of q) r.low r.high
