-- Document 01, "Stretches": "A stretch runs from component a to component b of the list."
use Rattle.std.specs.Prelude.{List, ℕ, suc, ◌-◌, take, drop}

-- the components from a to b of a list of survival numbers or weights
unfoldable pub stretch : (a b : ℕ) → List ℕ → List ℕ
stretch a b xs = take (suc b - a) (drop (a - 1) xs)
