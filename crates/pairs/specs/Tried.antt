-- What is known of the pairs tried so far: all whose first place is below i, and of those of i the ones whose second place is below j.
use Rattle.std.specs.Prelude.{ℕ, suc, ◌+◌, ◌-◌, ◌≤◌, ◌<◌, ◌≡◌, Bool, not, cond, ◌&&◌, eqb, leb}
use Rattle.rules.specs.Asked.{Asked, size_of}
use Rattle.places.specs.declared.Ends.{Ends}
use Rattle.pairs.specs.declared.Best.{Best}
use Rattle.pairs.specs.Pairs.{low_with_both, high_with_both, pairs_below}

-- the best of them: none of them has a higher low, and none before it has as high a one
pub record Leads (low high : ℕ → ℕ → ℕ) (n i j : ℕ) (b : Best) : Type 0 where
  pub pair : (b.first < b.second) × (b.second < n)
  pub figures : (b.low ≡ low b.first b.second) × (b.high ≡ high b.first b.second)
  pub no_higher : (k l : ℕ) → k < i → k < l → l < n → low k l ≤ b.low
  pub no_higher_here : (l : ℕ) → i < l → l < j → low i l ≤ b.low
  pub before : (k l : ℕ) → k < b.first → k < l → l < n → low k l < b.low
  pub before_here : (l : ℕ) → b.first < l → l < b.second → low b.first l < b.low

-- each was rated once, and one of them leads where any was
pub record Tried (low high : ℕ → ℕ → ℕ) (n i j : ℕ) (b : Best) : Type 0 where
  pub count : b.rated ≡ pairs_below n i + (j - suc i)
  pub leads : 1 ≤ b.rated → Leads low high n i j b

-- of a stretch: all whose first place is below i
abbrev pub TriedBelow : (q : Asked) (p i : ℕ) → Best → Type 0
TriedBelow q p i b = Tried (low_with_both q p) (high_with_both q p) (size_of q) i 0 b

-- one pair more: a higher low leads from then on
abbrev pub best_of : (first second low high rated : ℕ) → Best
best_of first second low high rated = record { first = first; second = second; low = low; high = high; rated = rated }

abbrev pub stays : Best → (low : ℕ) → Bool
stays b low = not (eqb b.rated 0) && leb low b.low

abbrev pub with_pair : Best → (i j : ℕ) → Ends → Best
with_pair b i j ends =
    cond (stays b ends.low) (best_of b.first b.second b.low b.high (b.rated + 1)) (best_of i j ends.low ends.high (b.rated + 1))
