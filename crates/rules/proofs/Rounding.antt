-- The single rounded step, down and up, for any unit from 1 on: what it loses and gains, and that it stays within the unit. Every figure is made
-- of such steps, and nothing else is rounded. Assumes nothing.
use mathlib.Core.Path.{◌≡◌, ap}
use mathlib.Core.Bool.{Bool, true, false}
use Prim.Native.Nat.{ℕ, suc, ◌+◌, ◌*◌, ◌-◌, ◌≤◌, ◌<◌}
use native.Mathlib.Omega.{arith}
use native.Mathlib.Nat.{div-mul-le_self, lt-div-mul-add, mul-le-mul_left, le_of_suc-le-suc, div-lt_iff_lt-mul, mul-div_cancel}
use lib.Arith.{digits_div}
use Rattle.rules.specs.Figure.{rounded, mixed}

-- rounded down it is at most the quotient, rounded up at least
pub down_le : (u x : ℕ) → rounded false u x * u ≤ x
unfolding rounded
down_le u x = div-mul-le_self x u

pub le_up : (u x : ℕ) → 0 < u → x ≤ rounded true u x * u
unfolding rounded
le_up u x pos = omega (arith, lt-div-mul-add {a = x + (u - 1)} pos)

-- a multiple of the unit is not rounded
pub whole : (up : Bool) (u c : ℕ) → 0 < u → rounded up u (c * u) ≡ c
unfolding rounded
whole false u c pos = mul-div_cancel c pos
whole true u c pos = digits_div c (omega arith)

-- nothing mixed with nothing, and a value with itself
pub nothing : (up : Bool) (u p : ℕ) → 0 < u → rounded up u (mixed u p 0 0) ≡ 0
nothing up u p pos = let e : mixed u p 0 0 ≡ 0 * u = omega arith in rw e (whole up u 0 pos)

pub unchanged : (up : Bool) (u p v : ℕ) → 0 < u → p ≤ u → rounded up u (mixed u p v v) ≡ v
unchanged up u p v pos l =
    let q = u - p in
    let e : p + q ≡ u = omega arith in
    let d : mixed u p v v ≡ v * u = omega (arith, ap (λ x. x * v) e) in
    rw d (whole up u v pos)

-- values k apart are at most k + 1 apart after a step
pub step-gap : (u p k h g l f : ℕ) → 0 < u → p ≤ u → h ≤ l + k → g ≤ f + k → rounded true u (mixed u p h g) ≤ rounded false u (mixed u p l f) + suc k
unfolding rounded
step-gap u p k h g l f pos s a b =
    let q = u - p in
    let e : p + q ≡ u = omega arith in
    le_of_suc-le-suc
    ((div-lt_iff_lt-mul pos).1
    (omega (arith, mul-le-mul_left p a, mul-le-mul_left q b, ap (λ x. x * k) e, lt-div-mul-add {a = p * l + q * f} pos)))

-- a step of two values within the unit
pub mixed-le : (u p a b : ℕ) → p ≤ u → a ≤ u → b ≤ u → mixed u p a b ≤ u * u
mixed-le u p a b s h g =
    let q = u - p in
    let e : p + q ≡ u = omega arith in
    omega (arith, mul-le-mul_left p h, mul-le-mul_left q g, ap (λ x. x * u) e)

pub step-le : (up : Bool) (u p a b : ℕ) → 0 < u → p ≤ u → a ≤ u → b ≤ u → rounded up u (mixed u p a b) ≤ u
unfolding rounded
step-le false u p a b pos s h g =
    le_of_suc-le-suc ((div-lt_iff_lt-mul pos).1 (omega (arith, mixed-le u p a b s h g)))
step-le true u p a b pos s h g =
    le_of_suc-le-suc ((div-lt_iff_lt-mul pos).1 (omega (arith, mixed-le u p a b s h g)))

-- a larger number never gives a smaller one
pub round_up : (up : Bool) (u x y : ℕ) → 0 < u → x ≤ y → rounded up u x ≤ rounded up u y
unfolding rounded
round_up false u x y pos h = le_of_suc-le-suc ((div-lt_iff_lt-mul pos).1 (omega (arith, lt-div-mul-add {a = y} pos)))
round_up true u x y pos h = le_of_suc-le-suc ((div-lt_iff_lt-mul pos).1 (omega (arith, lt-div-mul-add {a = y + (u - 1)} pos)))
