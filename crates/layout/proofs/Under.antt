-- Lists whose numbers are all below a limit. Assumes nothing.
use mathlib.Core.List.{List, [], ◌∷◌}
use Prim.Native.Nat.{ℕ, zero, suc, ◌≤◌, ◌<◌}
use native.Mathlib.Decide.{dec_lt}
use native.Mathlib.Omega.{arith}
use lib.ListN.{length, get_or, get_or-eq_default}
use Rattle.rules.specs.Below.{list_below}
use Rattle.rules.proofs.Lists.{below_length, below_get}
use Rattle.layout.specs.Fits.{Under}

module _ {limit : ℕ} where
  pub under_none : 0 < limit → Under limit []
  under_none h = record { each = λ i. h }

  pub under-cons : {x : ℕ} {xs : List ℕ} → x < limit → Under limit xs → Under limit (x ∷ xs)
  under-cons {x} {xs} h hs = record { each = go }
    where
      go : (i : ℕ) → get_or (x ∷ xs) i 0 < limit
      go zero = h
      go (suc i) = hs.each i

  pub under_rest : {x : ℕ} {xs : List ℕ} → Under limit (x ∷ xs) → Under limit xs
  under_rest hs = record { each = λ i. hs.each (suc i) }

  pub under-below : (n : ℕ) (f : ℕ → ℕ) → ((i : ℕ) → f i < limit) → Under limit (list_below n f)
  under-below n f h = record {
    each =
        λ i.
        elim (dec_lt i n) [
          | yes l ↦ rw (below_get n f 0 i l) (h i)
          | no g ↦
              let past : length (list_below n f) ≤ i = omega (arith, below_length n f) in
              rw (get_or-eq_default (list_below n f) 0 past) (omega (arith, h 0))
        ];
  }
