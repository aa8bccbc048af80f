-- A row's mix by P's share is the step's, for any unit: P's share of how far two values are apart is their mix but for what is taken off again. Its two digits'
-- products fit 64 bits, and their quotients are the share's. Assumes nothing.
use Prim.Native.Nat.{ℕ, ◌+◌, ◌*◌, ◌-◌, ◌/◌, ◌%◌, ◌≤◌}
use mathlib.Core.Path.{◌≡◌, ap, sym, ◌∙◌}
use mathlib.Core.Bool.{true, false}
use native.Mathlib.Omega.{arith}
use native.Mathlib.Nat.{add-zero, mul-le-mul, add-mul-div_right, div-div-eq-div-mul, div-add-mod'}
use Rattle.units.specs.declared.odds.Odds.{Odds}
use Rattle.rules.specs.Figure.{rounded, mixed}
use Rattle.units.specs.Step.{AnyUnit}
use Rattle.units.specs.Share.{by_shares, digit, share_parts}
use Rattle.units.specs.Odds.{Mixable, Prepared, Values, apart, mixed_shares, round_up}
use Rattle.units.proofs.Shares.{share-down, share_up, share-most}
use Rattle.units.proofs.Making.{upper_parts}

-- both digits' quotients are the whole's
digits : (upper lower : ℕ) → (upper + lower / digit) / upper_parts ≡ (upper * digit + lower) / share_parts
digits upper lower =
    let e : upper * digit + lower ≡ lower + upper * digit = omega arith in
    let d : lower / digit + upper ≡ upper + lower / digit = omega arith in
    ap (λ x. x / upper_parts) (sym (ap (λ x. x / digit) e ∙ add-mul-div_right lower upper (omega arith) ∙ d))
    ∙ div-div-eq-div-mul (upper * digit + lower) digit upper_parts

-- the same of a share's digits times d
pub quotient_is : (s d round : ℕ) → (s / digit * d + (s % digit * d + round) / digit) / upper_parts ≡ (s * d + round) / share_parts
quotient_is s d round =
    let e : s / digit * d * digit + (s % digit * d + round) ≡ s * d + round = omega (arith, ap (λ x. x * d) (div-add-mod' s digit)) in
    digits (s / digit * d) (s % digit * d + round) ∙ ap (λ x. x / share_parts) e

module _ {u : ℕ} (unit : AnyUnit u) (p w f : ℕ) (survival : p ≤ u) (right : f ≤ u) where
  pub apart-mix : (more : ℕ) → (p * apart u w f + more) / u + f ≡ (p * w + (u - p) * f + more) / u + p
  apart-mix more =
      let d : apart u w f + f ≡ w + u = omega arith in
      let q : u - p + p ≡ u = omega arith in
      let e : p * apart u w f + more + f * u ≡ p * w + (u - p) * f + more + p * u = omega (arith, ap (λ x. p * x) d, ap (λ x. x * f) q) in
      sym (add-mul-div_right (p * apart u w f + more) f unit.some)
      ∙ ap (λ x. x / u) e
      ∙ add-mul-div_right (p * w + (u - p) * f + more) p unit.some

  apart-plain : p * apart u w f / u + f ≡ (p * w + (u - p) * f) / u + p
  apart-plain =
      ap (λ x. x / u + f) (sym (add-zero (p * apart u w f))) ∙ apart-mix 0 ∙ ap (λ x. x / u + p) (add-zero (p * w + (u - p) * f))

taken : (x y p f : ℕ) → x + f ≡ y + p → x + f - p ≡ y
taken x y p f e = omega (arith, e)

there : (x round y z p f : ℕ) → x / share_parts ≡ y → y + f ≡ z + p → p ≤ (x + round) / share_parts + f
there x round y z p f is e = omega (arith, is, e)

-- a lower digit is below 2^32, an upper one at most 2^30, so that both products fit 64 bits with what is added
pub record Small (s d : ℕ) : Type 0 where
  pub lower : s % digit * d ≤ 4294967295 * 2147483648
  pub upper : s / digit * d ≤ upper_parts * 2147483648

module _ {u : ℕ} {o : Odds} {round works fails : ℕ} (h : Mixable u o round works fails) where
  two : apart u works fails ≤ 2 * u
  two = omega (arith, h.values.left)

  pub products : Small o.share.0 (apart u works fails)
  products =
      let few : apart u works fails ≤ 2147483648 = omega (arith, two, h.unit.most) in
      let most = share-most h.unit h.share h.survival in
      record {
        lower = mul-le-mul {n₂ = 4294967295} {m₂ = 2147483648} (omega arith) few;
        upper = mul-le-mul {n₂ = upper_parts} {m₂ = 2147483648} (omega (arith, most)) few;
      }

  -- what is taken off is there
  pub enough : o.p.0 ≤ (o.share.0 * apart u works fails + round) / share_parts + fails
  enough =
      there (o.share.0 * apart u works fails) round (o.p.0 * apart u works fails / u) (mixed u o.p.0 works fails / u) o.p.0 fails (share-down h.unit h.share (apart u works fails) two)
      (apart-plain h.unit o.p.0 works fails h.survival h.values.right)

-- the row's step is the step of the mix
module _ {u : ℕ} {o : Odds} {works fails : ℕ} where
  pub row-down : Mixable u o 0 works fails → mixed_shares u o 0 works fails ≡ rounded false u (mixed u o.p.0 works fails)
  unfolding rounded
  row-down h =
      taken ((o.share.0 * apart u works fails + 0) / share_parts) (mixed u o.p.0 works fails / u) o.p.0 fails
      (ap (λ x. x / share_parts + fails) (add-zero (o.share.0 * apart u works fails))
      ∙ ap (λ x. x + fails) (share-down h.unit h.share (apart u works fails) (two h))
      ∙ apart-plain h.unit o.p.0 works fails h.survival h.values.right)

  pub row_up : Mixable u o round_up works fails → mixed_shares u o round_up works fails ≡ rounded true u (mixed u o.p.0 works fails)
  unfolding rounded
  row_up h =
      taken ((o.share.0 * apart u works fails + round_up) / share_parts) ((mixed u o.p.0 works fails + (u - 1)) / u) o.p.0 fails
      (ap (λ x. x + fails) (share_up h.unit h.share (apart u works fails) (two h))
      ∙ apart-mix h.unit o.p.0 works fails h.survival h.values.right (u - 1))

-- a row's numbers where its share is asked for
pub mixable : {u : ℕ} {o : Odds} {round works fails : ℕ} → round ≤ round_up → Prepared u o → Values u works fails → by_shares u ≡ true → Mixable u o round works fails
mixable few h v asked = record { unit = h.unit; survival = h.survival; share = h.dealt.is asked; values = v; few = few }
