-- How a share is made: its upper digits as a quotient, and its lower ones as a quotient of what is left, rounded up. Assumes nothing.
use Prim.Native.Nat.{ℕ, ◌+◌, ◌*◌, ◌-◌, ◌/◌, ◌≤◌, ◌<◌}
use mathlib.Core.Path.{◌≡◌}
use native.Mathlib.Omega.{arith}
use native.Mathlib.Nat.{le_of_mul-le-mul_right, div-mul-le_self, lt-div-mul-add}
use Rattle.units.specs.Step.{AnyUnit}
use Rattle.units.specs.Share.{Share, digit}

-- the parts of the upper digits
abbrev pub upper_parts : ℕ
upper_parts = 1073741824

-- a quotient of so many parts of a number within the unit
pub record Quotient (u x parts q : ℕ) : Type 0 where
  pub low : q * u ≤ x * parts
  pub high : x * parts < q * u + u
  pub most : q ≤ parts

pub quotient : {u : ℕ} → AnyUnit u → {x : ℕ} (parts : ℕ) → x * parts ≤ parts * u → {q : ℕ} → q ≡ x * parts / u → Quotient u x parts q
quotient {u} unit {x} parts l is =
    let low = div-mul-le_self (x * parts) u in
    let within : x * parts / u * u ≤ parts * u = omega (arith, l, low) in
    rw is (record { low = low; high = lt-div-mul-add {a = x * parts} {b = u} unit.some; most = le_of_mul-le-mul_right within unit.some })

-- what the upper digits leave is below the unit
pub rest-less : {u x upper : ℕ} → Quotient u x digit upper → x * digit - upper * u < u
rest-less h = omega (arith, h.low, h.high)

pub made : {u x upper lower : ℕ} → Quotient u x digit upper → Quotient u (x * digit - upper * u) upper_parts lower → Share u x (upper * upper_parts + lower + 1)
made h k = record { above = omega (arith, h.low, k.high); near = omega (arith, h.low, k.low) }
