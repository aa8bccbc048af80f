-- The open memory of a ring, with i of its n components left: "lead n - i", dead from k on, and "clean n - i", at most r - 1.
use Rattle.std.specs.Prelude.{ℕ, ◌-◌, min}
use Rattle.rules.specs.Memory.{Memory, live, below, Ring, lead}

unfoldable pub lead_open : (k n i : ℕ) → Memory Ring
lead_open k n i = below (n - i) k (lead (n - i))

unfoldable pub clean_open : (r n i : ℕ) → Memory Ring
clean_open r n i = live (lead (min (n - i) (r - 1)))
