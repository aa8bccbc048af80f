-- Systems as numbers, and numbers as systems: a system is five numbers of two bytes, so the s-th system reads the numbers from 5 s on.
-- Assumes nothing.
use mathlib.Core.Path.{◌≡◌, refl, ap, ◌∙◌}
use mathlib.Core.List.{List, [], ◌∷◌, ◌++◌, append_assoc}
use Prim.Native.Nat.{ℕ, zero, suc, ◌+◌, ◌*◌, ◌/◌, ◌%◌, ◌<◌}
use native.Mathlib.Nat.{add-zero}
use native.Mathlib.Numerals.{towards_suc}
use native.Mathlib.Omega.{arith}
use lib.ListN.{length, get_or}
use Rattle.rules.specs.declared.System.{System}
use Rattle.rules.specs.Below.{list_below}
use Rattle.rules.specs.File.{number_at, nth_number, numbers_from, system_numbers, per_system, five_of, systems_of, system_bytes, system_at, nth_system}
use Rattle.arrays.specs.Padded.{no_system}
use Rattle.rules.proofs.Lists.{below-is}

pub numbers-length : (ss : List System) → length (system_numbers ss) ≡ 5 * length ss
unfolding system_numbers
numbers-length [] = refl
numbers-length (s ∷ ss) = omega (arith, numbers-length ss)

numbers-append : (ss ts : List System) → system_numbers (ss ++ ts) ≡ system_numbers ss ++ system_numbers ts
unfolding system_numbers
numbers-append [] ts = refl
numbers-append (s ∷ ss) ts = rw (numbers-append ss ts)

-- a system by its five numbers
five-same : (f g : ℕ → ℕ) → ((i : ℕ) → i < 5 → f i ≡ g i) → five_of f ≡ five_of g
five-same f g h = λ x. record {
  rule = record { kind = h 0 (omega arith) x; first = h 1 (omega arith) x; second = h 2 (omega arith) x };
  a = h 3 (omega arith) x;
  b = h 4 (omega arith) x;
}

five-in : (ss : List System) (s : ℕ) → five_of (λ i. get_or (system_numbers ss) (5 * s + i) 0) ≡ get_or ss s no_system
unfolding system_numbers
five-in [] s = refl
five-in (x ∷ ss) zero = refl
five-in (x ∷ ss) (suc s) =
    five-same _ _
    (λ i h.
    let past : 5 * suc s + i ≡ suc (suc (suc (suc (suc (5 * s + i))))) = omega arith in
    ap (λ k. get_or (system_numbers (x ∷ ss)) k 0) past)
    ∙ five-in ss s

-- the system at a place, and the s-th system from a place on, by their numbers
at-numbers : (bytes : List ℕ) (at : ℕ) → system_at bytes at ≡ five_of (nth_number 2 bytes at)
unfolding system_at
at-numbers bytes at = rw (add-zero at)

at_five : (bytes : List ℕ) (at s : ℕ) → nth_system bytes at s ≡ five_of (λ i. nth_number 2 bytes at (5 * s + i))
at_five bytes at s =
    at-numbers bytes (at + system_bytes * s)
    ∙ five-same _ _
    (λ i h. let e : at + system_bytes * s + 2 * i ≡ at + 2 * (5 * s + i) = omega arith in ap (number_at 2 bytes) e)

pub systems-back : (ss : List System) (bytes : List ℕ) (at m : ℕ) → length ss ≡ m
    → ((i : ℕ) → i < 5 * m → nth_number 2 bytes at i ≡ get_or (system_numbers ss) i 0)
    → list_below m (nth_system bytes at) ≡ ss
systems-back ss bytes at m l h =
    below-is ss no_system m _ l
    (λ s g. at_five bytes at s ∙ five-same _ _ (λ i j. h (5 * s + i) (omega arith)) ∙ five-in ss s)

below-five : (n : ℕ) (f : ℕ → ℕ)
    → list_below (n + 5) f ≡ list_below n f ++ (f (n + 0) ∷ f (n + 1) ∷ f (n + 2) ∷ f (n + 3) ∷ f (n + 4) ∷ [])
unfolding list_below
below-five n f = simp (add-zero, towards_suc, append_assoc)

-- systems made place by place have the numbers that they are made of
numbers-below : (f : ℕ → ℕ) (m : ℕ) → system_numbers (list_below m (λ s. five_of (λ i. f (5 * s + i)))) ≡ list_below (5 * m) f
unfolding system_numbers list_below
numbers-below f zero = refl
numbers-below f (suc m) =
    let e : 5 * suc m ≡ 5 * m + 5 = omega arith in
    rw (
      e,
      below-five (5 * m) f,
      numbers-append (list_below m (λ s. five_of (λ i. f (5 * s + i)))) (five_of (λ i. f (5 * m + i)) ∷ []),
      numbers-below f m,
    )

pub numbers_of : (bytes : List ℕ) (at m : ℕ)
    → system_numbers (list_below m (nth_system bytes at)) ≡ numbers_from 2 bytes at (5 * m)
numbers_of bytes at m =
    (λ x. system_numbers (list_below m (λ s. at_five bytes at s x))) ∙ numbers-below (nth_number 2 bytes at) m

-- request 01: whole systems listed as numbers have these numbers, and a deck's systems are those of their numbers
pub listed-numbers : (numbers : List ℕ) → length numbers % per_system ≡ 0 → system_numbers (systems_of numbers) ≡ numbers
unfolding systems_of
listed-numbers numbers whole =
    numbers-below (λ i. get_or numbers i 0) (length numbers / per_system)
    ∙ below-is numbers 0 (5 * (length numbers / per_system)) _ (omega arith) (λ i h. refl)

pub listed-systems : (ss : List System) → systems_of (system_numbers ss) ≡ ss
unfolding systems_of
listed-systems ss =
    below-is ss no_system (length (system_numbers ss) / per_system) _ (omega (arith, numbers-length ss)) (λ s h. five-in ss s)
