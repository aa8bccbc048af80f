-- What is read from two lists of bytes that are the same where they are read is the same: the numbers of a list, a system. Of one number it is deck's law. Assumes nothing.
use mathlib.Core.Path.{◌≡◌, refl, ap₂}
use mathlib.Core.List.{List, [], ◌∷◌, ◌++◌}
use Prim.Native.Nat.{ℕ, zero, suc, ◌+◌, ◌*◌, ◌≤◌, ◌<◌}
use native.Mathlib.Nat.{mul-suc, mul-le-mul_left}
use native.Mathlib.Omega.{arith}
use Rattle.rules.specs.Below.{list_below}
use Rattle.rules.specs.File.{numbers_from, system_at, nth_system, system_bytes}
use Rattle.layout.proofs.Numbers.{Same, number_same}

pub below-same : {A : Type 0} (n : ℕ) (f g : ℕ → A) → ((i : ℕ) → i < n → f i ≡ g i) → list_below n f ≡ list_below n g
unfolding list_below
below-same zero f g h = refl
below-same (suc n) f g h = ap₂ (λ xs x. xs ++ (x ∷ [])) (below-same n f g (λ i l. h i (omega arith))) (h n (omega arith))

module _ {xs ys : List ℕ} {from upto : ℕ} (same : Same xs ys from upto) where
  pub numbers-same : (width at n : ℕ) → from ≤ at → at + width * n ≤ upto → numbers_from width xs at n ≡ numbers_from width ys at n
  numbers-same width at n h l =
      below-same n _ _
      (λ i s.
      let upper : width * suc i ≤ width * n = mul-le-mul_left width s in
      let more : width * suc i ≡ width * i + width = rw mul-suc (omega arith) in
      number_same same width (at + width * i) (omega arith) (omega arith))

  system-same : (at : ℕ) → from ≤ at → at + system_bytes ≤ upto → system_at xs at ≡ system_at ys at
  unfolding system_at
  system-same at h l =
      let kind = number_same same 2 at h (omega arith) in
      let first = number_same same 2 (at + 2) (omega arith) (omega arith) in
      let second = number_same same 2 (at + 4) (omega arith) (omega arith) in
      let a = number_same same 2 (at + 6) (omega arith) (omega arith) in
      let b = number_same same 2 (at + 8) (omega arith) (omega arith) in
      λ x. record { rule = record { kind = kind x; first = first x; second = second x }; a = a x; b = b x }

  pub systems-same : (at m : ℕ) → from ≤ at → at + system_bytes * m ≤ upto → list_below m (nth_system xs at) ≡ list_below m (nth_system ys at)
  systems-same at m h l = below-same m _ _ (λ s t. system-same (at + system_bytes * s) (omega arith) (omega arith))
