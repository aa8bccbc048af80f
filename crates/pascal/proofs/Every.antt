-- One test over all numbers below a bound, which the checker computes, carried to each of them. Assumes nothing.
use mathlib.Core.Path.{◌≡◌}
use mathlib.Core.Bool.{Bool, true, and-eq-true_iff}
use mathlib.Core.Logic.{⊎_elim}
use Prim.Native.Nat.{ℕ, zero, suc, ◌<◌}
use native.Mathlib.Omega.{arith}
use native.Mathlib.Nat.{eq-or-lt_of_le}
use Rattle.pascal.specs.Folded.{every}

pub every-at : (p : ℕ → Bool) (k : ℕ) → every p k ≡ true → (i : ℕ) → i < k → p i ≡ true
unfolding every
every-at p zero e i h = absurd (omega arith)
every-at p (suc k) e i h =
    let both = (and-eq-true_iff (every p k) (p k)).0 e in
    ⊎_elim (λ s. rw s both.1) (λ l. every-at p k both.0 i l) (eq-or-lt_of_le {n = i} {m = k} (omega arith))
