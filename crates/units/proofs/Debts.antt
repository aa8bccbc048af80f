-- A component that must work: P's share of a value is the step rounded down, and what Q's share leaves of it the step rounded up, for any unit. Assumes nothing.
use Prim.Native.Nat.{ℕ, ◌+◌, ◌*◌, ◌-◌, ◌/◌, ◌≤◌, ◌<◌}
use mathlib.Core.Path.{◌≡◌, ap, sym, ◌∙◌}
use mathlib.Core.Bool.{true, false}
use native.Mathlib.Omega.{arith}
use native.Mathlib.Nat.{le_of_mul-le-mul_right, div-mul-le_self, lt-div-mul-add}
use Rattle.rules.specs.Figure.{rounded, mixed}
use Rattle.units.specs.Step.{AnyUnit}
use Rattle.units.specs.Share.{Share, share_parts}
use Rattle.units.proofs.Shares.{between, share-down}

-- where y and z make up x units, and t is y over the unit
module _ (x y z t u : ℕ) (some : 1 ≤ u) (both : z + y ≡ x * u) (low : t * u ≤ y) where
  least : t ≤ x
  least = let within : t * u ≤ x * u = omega (arith, low, both) in le_of_mul-le-mul_right within some

  rest : y < t * u + u → (z + (u - 1)) / u ≡ x - t
  rest high =
      let s : x - t + t ≡ x = omega (arith, least) in
      let m : (x - t) * u + t * u ≡ x * u = omega (arith, ap (λ v. v * u) s) in
      between (z + (u - 1)) u (x - t) (omega (arith, m, both, high, some)) (omega (arith, m, both, low, some))

module _ {u p x : ℕ} (unit : AnyUnit u) (within : x ≤ u) where
  pub must-down : {a : ℕ} → Share u p a → a * x / share_parts ≡ rounded false u (mixed u p x 0)
  unfolding rounded
  must-down h =
      let e : p * x ≡ p * x + (u - p) * 0 = omega arith in
      share-down unit h x (omega (arith, within)) ∙ ap (λ y. y / u) e

  module _ {b : ℕ} (survival : p ≤ u) (h : Share u (u - p) b) where
    both : p * x + (u - p) * x ≡ x * u
    both = let q : p + (u - p) ≡ u = omega (arith, survival) in omega (arith, ap (λ y. y * x) q)

    times : b * x / share_parts ≡ (u - p) * x / u
    times = share-down unit h x (omega (arith, within))

    pub must-least : b * x / share_parts ≤ x
    must-least = rw times (least x ((u - p) * x) (p * x) ((u - p) * x / u) u unit.some both (div-mul-le_self ((u - p) * x) u))

    pub must-up : x - b * x / share_parts ≡ rounded true u (mixed u p x 0)
    unfolding rounded
    must-up =
        let e : p * x ≡ p * x + (u - p) * 0 = omega arith in
        ap (λ y. x - y) times
        ∙ sym (rest x ((u - p) * x) (p * x) ((u - p) * x / u) u unit.some both (div-mul-le_self ((u - p) * x) u) (lt-div-mul-add {a = (u - p) * x} {b = u} unit.some))
        ∙ ap (λ y. (y + (u - 1)) / u) e
