-- The whole numbers just below and just above a float's value times 2^30: what they say of its own value, that they are at most 1 apart and one where
-- nothing is lost, and that a chance's are within 2^30. Arithmetic is over plain numbers, and 2^1074 stays shut. Assumes nothing.
use mathlib.Core.Path.{◌≡◌, refl, sym, ap, ◌∙◌}
use mathlib.Core.Bool.{Bool, true, false, not, ◌&&◌, ◌||◌, true≢false}
use mathlib.Core.Logic.{◌↔◌}
use Prim.Native.Nat.{ℕ, zero, suc, ◌+◌, ◌*◌, ◌/◌, ◌%◌, ◌^◌, ◌≤◌, ◌<◌}
use native.Mathlib.Omega.{arith}
use native.Mathlib.Nat.{pow-zero, pow-suc, mul_comm, mul-le-mul_right, le_of_mul-le-mul_right, le_of_suc-le-suc, div-lt_iff_lt-mul, lt-div-mul-add, div-add-mod', add-zero, le_trans, le_of_eq, mul-mod_left, eq_of_mul-eq-mul_right}
use lib.Dec.{eqb, leb}
use lib.Pow.{pow_pos, pow-add}
use borrow.Author.Tests.{eqb-true, eq-eqb, ne_eqb, leb-true}
use Rattle.rules.specs.State.{S}
use Rattle.rules.specs.Figure.{rounded}
use Rattle.rules.specs.Doubles.{parts, sign, own, not_aNumber, is_chance, whole_of, on_grid}
use Rattle.rules.proofs.Tests.{both}
use Rattle.rules.proofs.Rounding.{down_le, le_up, whole}

-- ---- the two large numbers

-- the parts of one in 2^30
unfoldable pub cell : ℕ
cell = 2 ^ 1044

pub parts-pos : 0 < parts
unfolding parts
parts-pos = pow_pos 1074

pub cell-pos : 0 < cell
unfolding cell
cell-pos = pow_pos 1044

pub parts_is : parts ≡ cell * S
unfolding parts cell
parts_is = refl

-- "2^(1074n)"
pub parts-power : (n : ℕ) → parts ^ n ≡ 2 ^ (1074 * n)
parts-power zero = rw (pow-zero parts)
parts-power (suc n) =
    let e : 1074 * suc n ≡ 1074 * n + 1074 = omega arith in
    pow-suc parts n ∙ ap (λ (z : ℕ). z * parts) (parts-power n) ∙ ap (λ (z : ℕ). 2 ^ (1074 * n) * z) opened ∙ sym (pow-add 2 (1074 * n) 1074) ∙ ap (λ (z : ℕ). 2 ^ z) (sym e)
  where
    opened : parts ≡ 2 ^ 1074
    opened = unfold parts in refl

-- ---- v of c * u parts, times u, rounded: over any unit u and any c

module _ (c u : ℕ) (some : 0 < u) where
  down-under : (v : ℕ) → c * rounded false (c * u) (v * u) ≤ v
  down-under v = le_of_mul-le-mul_right (omega (arith, down_le (c * u) (v * u))) some

  up-over : (v : ℕ) → 0 < c * u → v ≤ c * rounded true (c * u) (v * u)
  up-over v pos = le_of_mul-le-mul_right (omega (arith, le_up (c * u) (v * u) pos)) some

one_more : (p x : ℕ) → 0 < p → rounded true p x ≤ rounded false p x + 1
unfolding rounded
one_more p x pos = le_of_suc-le-suc ((div-lt_iff_lt-mul pos).1 (omega (arith, lt-div-mul-add {a = x} pos)))

-- no more than u wholes
at_most : (up : Bool) (p u x : ℕ) → 0 < p → x ≤ u * p → rounded up p x ≤ u
unfolding rounded
at_most false p u x pos l = le_of_suc-le-suc ((div-lt_iff_lt-mul pos).1 (omega arith))
at_most true p u x pos l = le_of_suc-le-suc ((div-lt_iff_lt-mul pos).1 (omega arith))

-- nothing lost
unlost : (up : Bool) (p x : ℕ) → 0 < p → x % p ≡ 0 → x ≡ rounded up p x * p
unlost up p x pos e =
    let w : x / p * p ≡ x = sym (add-zero (x / p * p)) ∙ ap (λ (z : ℕ). x / p * p + z) (sym e) ∙ div-add-mod' x p in
    sym (ap (λ (z : ℕ). rounded up p z * p) (sym w) ∙ ap (λ (z : ℕ). z * p) (whole up p (x / p) pos) ∙ w)

lost-none : (p x : ℕ) → 0 < p → rounded false p x ≡ rounded true p x → x % p ≡ 0
lost-none p x pos e =
    let w : x ≡ rounded false p x * p = omega (arith, down_le p x, le_up p x pos, ap (λ (z : ℕ). z * p) e) in
    ap (λ (z : ℕ). z % p) w ∙ mul-mod_left (rounded false p x) p

unlost-same : (p x : ℕ) → 0 < p → x % p ≡ 0 → rounded false p x ≡ rounded true p x
unlost-same p x pos e = eq_of_mul-eq-mul_right p pos _ _ (sym (unlost false p x pos e) ∙ unlost true p x pos e)

-- ---- of a float

module _ (b : ℕ) where
  pub under : cell * whole_of false b ≤ own b
  unfolding whole_of
  under = rw parts_is (down-under cell S (omega arith) (own b))

  pub over : own b ≤ cell * whole_of true b
  unfolding whole_of
  over = rw parts_is (up-over cell S (omega arith) (own b) (rw (← parts_is) parts-pos))

  pub one_apart : whole_of true b ≤ whole_of false b + 1
  unfolding whole_of
  one_apart = one_more parts (own b * S) parts-pos

  pub within : is_chance b ≡ true → own b ≤ parts
  unfolding is_chance
  within t = leb-true (own b) parts (both (not (not_aNumber b) && (not (sign b) || eqb (own b) 0)) (leb (own b) parts) t).1

  pub small : (up : Bool) → is_chance b ≡ true → whole_of up b ≤ S
  unfolding whole_of
  small up t = at_most up parts S (own b * S) parts-pos (le_trans (mul-le-mul_right S (within t)) (le_of_eq (mul_comm parts S)))

  -- "equal where nothing is lost"
  pub equal-on-grid : (whole_of false b ≡ whole_of true b) ↔ (on_grid b ≡ true)
  unfolding whole_of on_grid
  equal-on-grid = (
    λ e. eq-eqb _ 0 (lost-none parts (own b * S) parts-pos e),
    λ t. unlost-same parts (own b * S) parts-pos (eqb-true _ 0 t),
  )

  pub grid-test : eqb (whole_of false b) (whole_of true b) ≡ on_grid b
  grid-test = go (on_grid b) refl
    where
      go : (t : Bool) → on_grid b ≡ t → eqb (whole_of false b) (whole_of true b) ≡ t
      go true e = eq-eqb _ _ (equal-on-grid.1 e)
      go false e = ne_eqb _ _ (λ same. true≢false (sym (equal-on-grid.0 same) ∙ e))

  pub on-grid : (up : Bool) → on_grid b ≡ true → own b ≡ cell * whole_of up b
  unfolding whole_of on_grid
  on-grid up t =
      eq_of_mul-eq-mul_right S (omega arith) (own b) (cell * rounded up parts (own b * S))
      (unlost up parts (own b * S) parts-pos (eqb-true _ 0 t) ∙ ap (λ (z : ℕ). rounded up parts (own b * S) * z) parts_is ∙ turn (rounded up parts (own b * S)) cell)
    where
      turn : (r c : ℕ) → r * (c * S) ≡ c * r * S
      turn r c = omega arith
