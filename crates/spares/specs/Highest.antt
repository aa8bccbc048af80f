-- The highest of so many lows, among those that count.
use Rattle.std.specs.Prelude.{ℕ, zero, suc, max, Bool, cond}

-- of the places below n, those that count
unfoldable pub highest : (low : ℕ → ℕ) (counts : ℕ → Bool) (n : ℕ) → ℕ
highest low counts zero = 0
highest low counts (suc n) = max (highest low counts n) (cond (counts n) (low n) 0)
