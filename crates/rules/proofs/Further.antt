-- The further pairs, read two numbers at a time: each turn takes one pair off the list. Assumes nothing.
use mathlib.Core.Path.{◌≡◌, refl}
use mathlib.Core.Bool.{Bool, true, false}
use mathlib.Core.List.{List, [], ◌∷◌}
use Prim.Native.Nat.{ℕ, zero, suc, ◌+◌, ◌≤◌, ◌<◌}
use native.Mathlib.Omega.{arith}
use lib.ListN.{length, get_or, drop}
use Rattle.rules.specs.declared.Pair.{Pair}
use Rattle.rules.specs.Pairs.{pair_of, pairs_in, any_of, all_of}

pub pairs-step : (xs : List ℕ) (i : ℕ) → i + 1 < length xs → pairs_in (drop i xs) ≡ pair_of (get_or xs i 0) (get_or xs (i + 1) 0) ∷ pairs_in (drop (i + 2) xs)
unfolding pairs_in
pairs-step [] i l = absurd (omega arith)
pairs-step (a ∷ []) i l = absurd (omega arith)
pairs-step (a ∷ b ∷ xs) zero l = refl
pairs-step (a ∷ b ∷ xs) (suc i) l =
    let one : suc i + 1 ≡ suc (i + 1) = omega arith in
    let two : suc i + 2 ≡ suc (i + 2) = omega arith in
    rw (one, two) (pairs-step (b ∷ xs) i (omega arith))

pub pairs_end : (xs : List ℕ) (i : ℕ) → length xs ≤ i + 1 → pairs_in (drop i xs) ≡ []
unfolding pairs_in
pairs_end [] zero l = refl
pairs_end [] (suc i) l = refl
pairs_end (a ∷ []) zero l = refl
pairs_end (a ∷ b ∷ xs) zero l = absurd (omega arith)
pairs_end (a ∷ xs) (suc i) l = pairs_end xs i (omega arith)

-- one pair more looked at: does some ask, do all?
module _ (xs : List ℕ) (i : ℕ) where
  pub any_found : (q : Pair → Bool) → i + 1 < length xs → q (pair_of (get_or xs i 0) (get_or xs (i + 1) 0)) ≡ true → any_of q (pairs_in (drop i xs)) ≡ true
  unfolding any_of
  any_found q l e = rw (pairs-step xs i l, e)

  pub any_next : (q : Pair → Bool) → i + 1 < length xs → q (pair_of (get_or xs i 0) (get_or xs (i + 1) 0)) ≡ false
      → any_of q (pairs_in (drop (i + 2) xs)) ≡ any_of q (pairs_in (drop i xs))
  unfolding any_of
  any_next q l e = rw (pairs-step xs i l, e)

  pub any_last : (q : Pair → Bool) → length xs ≤ i + 1 → any_of q (pairs_in (drop i xs)) ≡ false
  unfolding any_of
  any_last q l = rw (pairs_end xs i l)

  pub all-lost : (q : Pair → Bool) → i + 1 < length xs → q (pair_of (get_or xs i 0) (get_or xs (i + 1) 0)) ≡ false → all_of q (pairs_in (drop i xs)) ≡ false
  unfolding all_of
  all-lost q l e = rw (pairs-step xs i l, e)

  pub all-next : (q : Pair → Bool) → i + 1 < length xs → q (pair_of (get_or xs i 0) (get_or xs (i + 1) 0)) ≡ true
      → all_of q (pairs_in (drop (i + 2) xs)) ≡ all_of q (pairs_in (drop i xs))
  unfolding all_of
  all-next q l e = rw (pairs-step xs i l, e)

  pub all-last : (q : Pair → Bool) → length xs ≤ i + 1 → all_of q (pairs_in (drop i xs)) ≡ true
  unfolding all_of
  all-last q l = rw (pairs_end xs i l)
