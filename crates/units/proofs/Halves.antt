-- The upper half of a product of 128 bits: what its digits' products carry, added up. Each product of two digits fits 64 bits, and so does it with what is carried into it.
-- Assumes nothing.
use Prim.Native.Nat.{ℕ, ◌+◌, ◌*◌, ◌/◌, ◌%◌, ◌≤◌, ◌<◌}
use mathlib.Core.Path.{◌≡◌, sym, ap, ◌∙◌}
use native.Mathlib.Omega.{arith}
use native.Mathlib.Nat.{mul-le-mul_left, div-add-mod'}
use Rattle.units.specs.Share.{digit, word_parts}
use Rattle.units.proofs.Shares.{between}

-- the largest digit
abbrev top : ℕ
top = 4294967295

product : (a b : ℕ) → a ≤ top → b ≤ top → a * b ≤ 18446744065119617025
product a b l h = omega (arith, mul-le-mul_left a h)

-- the products of the digits
pub record Products (x y : ℕ) : Type 0 where
  pub both : x / digit * (y / digit) ≤ 18446744065119617025
  pub left : x / digit * (y % digit) ≤ 18446744065119617025
  pub right : x % digit * (y / digit) ≤ 18446744065119617025
  pub none : x % digit * (y % digit) ≤ 18446744065119617025

module _ (x y : ℕ) (x_Fits : x < word_parts) (y-fits : y < word_parts) where
  pub products : Products x y
  products = record {
    both = product (x / digit) (y / digit) (omega arith) (omega arith);
    left = product (x / digit) (y % digit) (omega arith) (omega arith);
    right = product (x % digit) (y / digit) (omega arith) (omega arith);
    none = product (x % digit) (y % digit) (omega arith) (omega arith);
  }

-- what is carried out of the lower digits, and out of the middle
abbrev pub lower : (x y : ℕ) → ℕ
lower x y = x / digit * (y % digit) + x % digit * (y % digit) / digit

abbrev pub middle : (x y : ℕ) → ℕ
middle x y = x % digit * (y / digit) + lower x y % digit

pub halves : (x y : ℕ) → x / digit * (y / digit) + lower x y / digit + middle x y / digit ≡ x * y / word_parts
halves x y =
    let is : x * y ≡ (x / digit * digit + x % digit) * (y / digit * digit + y % digit) = rw (div-add-mod' x digit, div-add-mod' y digit) in
    sym (between (x * y) word_parts (x / digit * (y / digit) + lower x y / digit + middle x y / digit) (omega (arith, is)) (omega (arith, is)))
