-- Sums, tests and lists over the numbers below a bound: what the other definitions are made of.
use Rattle.std.specs.Prelude.{Bool, false, cond, ◌||◌, ◌&&◌, List, [], ◌∷◌, ◌++◌, ℕ, zero, suc, ◌+◌, leb, get_or}

-- f 0 + f 1 + .. + f (k - 1)
unfoldable pub sum_below : ℕ → (ℕ → ℕ) → ℕ
sum_below zero f = 0
sum_below (suc k) f = sum_below k f + f k

-- at how many places below k does p hold?
unfoldable pub held : (ℕ → Bool) → ℕ → ℕ
held p zero = 0
held p (suc k) = held p k + cond (p k) 1 0

-- does p hold somewhere below k?
unfoldable pub some : (ℕ → Bool) → ℕ → Bool
some p zero = false
some p (suc k) = some p k || p k

-- the lowest place below k at which p holds; k where there is none
unfoldable pub first : (ℕ → Bool) → ℕ → ℕ
first p zero = zero
first p (suc k) = cond (some p k) (first p k) (cond (p k) k (suc k))

-- f 0, f 1, .., f (k - 1)
unfoldable pub list_below : {A : Type 0} → ℕ → (ℕ → A) → List A
list_below zero f = []
list_below (suc k) f = list_below k f ++ (f k ∷ [])

-- the sum of a list
unfoldable pub total : List ℕ → ℕ
total [] = 0
total (x ∷ xs) = x + total xs

-- is x at least a and at most b?
abbrev pub within : (a x b : ℕ) → Bool
within a x b = leb a x && leb x b

-- the row of a kind in a table of eight; `other` stands where the table has none
abbrev pub row_of {ℓ} : {A : Type ℓ} → ℕ → A → List A → A
row_of kind other rows = get_or (other ∷ rows) kind other
