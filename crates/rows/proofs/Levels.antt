-- A level goes up by a component: every place that is read holds its sum's value, living or dead, and behind the limit nothing is written.
-- Assumes nothing.
use Prim.Native.Nat.{ℕ, suc, ◌+◌, ◌-◌, ◌≤◌, ◌<◌, min}
use mathlib.Core.Path.{◌≡◌, refl, sym, ap, ◌∙◌}
use mathlib.Core.Bool.{Bool}
use mathlib.Core.Logic.{◌⊎◌, inl, inr}
use mathlib.Core.List.{List}
use native.Mathlib.Decide.{dec_lt}
use native.Mathlib.Nat.{add-zero}
use native.Mathlib.Omega.{arith}
use lib.ListN.{length}
use Rattle.rules.specs.declared.Rule.{Rule}
use Rattle.rules.specs.Below.{sum_below}
use Rattle.rules.specs.Figure.{figure, value}
use Rattle.rules.proofs.Rounding.{unchanged}
use Rattle.memory.specs.Sum.{sum}
use Rattle.places.specs.declared.Ends.{Ends}
use Rattle.places.specs.Cells.{Side, Both, cell_at, Kept, Shelf, Written}
use Rattle.places.specs.Map.{half}
use Rattle.places.proofs.Cells.{both-as, workable-kept, side-near, other-side, row_same, row_as}
use Rattle.places.proofs.Values.{Chance, valued-suc}
use Rattle.rows.specs.declared.Level.{Level}
use Rattle.rows.specs.Kinds.{carry_of, load_of, limit_of, gap_of, summed}
use Rattle.rows.specs.Level.{sums_value, ends_value, Asked, Levelled}
use Rattle.rows.proofs.Early.{carry-le, load-more, load-upto, Early, early-is}
use Rattle.rows.proofs.Climbs.{Climb}

-- a place behind the limit, on either side, lies outside a row below the limit
beside : {a b limit n : ℕ} (k : ℕ) → Side a → Side b → n ≤ limit → limit + k < half → (a + limit + k < b) ⊎ (b + n ≤ a + limit + k)
beside k (inl e) (inl d) l h = inr (omega arith)
beside k (inl e) (inr d) l h = inl (omega arith)
beside k (inr e) (inl d) l h = inr (omega arith)
beside k (inr e) (inr d) l h = inr (omega arith)

asked-kept : {u : ℕ} {rule : Rule} {survival weights t₀ t : List ℕ} → Kept t₀ t → Asked u rule survival weights t₀ → Asked u rule survival weights t
asked-kept k y = record { accepted = y.accepted; sums = y.sums; list = workable-kept k y.list }

module _ {u : ℕ} {rule : Rule} {survival weights : List ℕ} {s : Level} {t : List ℕ} (y : Levelled u rule survival weights s t) where
  abbrev early : Early u rule survival weights
  early = early-is y.asked

  -- every place that can be read holds the value of its sum
  known : (up : Bool) (k : ℕ) → k < s.reach → k < limit_of rule + gap_of rule → cell_at t up (s.from + k) ≡ sums_value u rule survival weights s.left up k
  known up k near l =
      elim (dec_lt k (limit_of rule)) [
        | yes a ↦ y.row.is up k (omega arith)
        | no b ↦ let d : s.from + k ≡ s.from + limit_of rule + (k - limit_of rule) = omega arith in
            ap (λ x. cell_at t up x) d
            ∙ (y.behind y.side).is up (k - limit_of rule) (omega arith)
            ∙ sym (early.gone up s.left k (omega arith) (omega (arith, y.reach)))
      ]

  pub level-read : s.left ≡ length survival → {r : Ends} → Both (λ up. cell_at t up s.from) r → Both (λ up. figure up u rule survival weights) r
  level-read all = both-as at
    where
      at : (up : Bool) → cell_at t up s.from ≡ figure up u rule survival weights
      at up =
          let d : s.from ≡ s.from + 0 = omega arith in
          ap (λ x. cell_at t up x) d
          ∙ known up 0 (omega (arith, y.reach, ap (λ i. load_of rule weights i) all)) (omega (arith, early.some))
          ∙ ap (λ i. sums_value u rule survival weights i up 0) all
          ∙ early.whole up

  module _ (more : s.left < length survival) where
    abbrev heavy : ℕ
    heavy = carry_of rule weights (suc s.left)

    abbrev width : ℕ
    width = min (limit_of rule) (s.reach - heavy)

    -- the sums that are made can come, with what the component carries to spare
    pub spare : heavy < s.reach
    spare = omega (arith, y.reach, load-upto rule weights s.left (length survival) more)

    pub level-climb : {p q : ℕ} → Chance u survival s.left p q → Climb u rule survival weights s.left s.from t p q heavy width
    level-climb chance =
        let light = carry-le y.asked.accepted (suc s.left) in
        record {
          list = y.asked.list;
          side = y.side;
          chance = chance;
          is = refl;
          narrow = omega (arith, early.most);
          row = record { is = λ up k l. known up k (omega (arith, spare)) (omega arith) };
        }

    pub level-up : {t' : List ℕ} → Written (sums_value u rule survival weights (suc s.left)) width (half - s.from) t t'
        → Levelled u rule survival weights (record { reach = s.reach - heavy; left = suc s.left; from = half - s.from }) t'
    level-up w =
        let most = early.most in
        let to = other-side y.side in
        record {
          asked = asked-kept w.kept y.asked;
          side = to;
          some = omega arith;
          reach = omega (arith, y.reach, spare, load-more rule weights s.left);
          row = w.row;
          behind = λ {side} b. row_same (λ up k l. w.other up _ (omega (arith, side-near b)) (beside k b to (omega arith) (omega arith))) (y.behind b);
        }

    -- a component of no weight
    pub level-same : heavy ≡ 0 → Levelled u rule survival weights (record { reach = s.reach; left = suc s.left; from = s.from }) t
    level-same none = record {
      asked = y.asked;
      side = y.side;
      some = omega arith;
      reach = omega (arith, y.reach, load-more rule weights s.left);
      row = row_as (λ up k l. sym (light up k)) y.row;
      behind = y.behind;
    }
      where
        light : (up : Bool) (k : ℕ) → sums_value u rule survival weights (suc s.left) up k ≡ sums_value u rule survival weights s.left up k
        light up k =
            valued-suc u (summed rule weights) survival s.left (sum k) up ∙ rw (none, add-zero) (unchanged up u _ _ y.asked.list.whole (y.asked.list.units s.left))

-- with no components left
module _ {u : ℕ} {rule : Rule} {survival weights t₀ t₁ t₂ t₃ : List ℕ} (y : Asked u rule survival weights t₀)
    (a : Written (ends_value u rule) (limit_of rule) 0 t₀ t₁) (b : Written (λ up k. 0) (gap_of rule) (limit_of rule) t₁ t₂)
    (c : Written (λ up k. 0) (gap_of rule) (half + limit_of rule) t₂ t₃) where
  abbrev most : limit_of rule + gap_of rule ≤ half
  most = (early-is y).most

  -- what was written first is still there
  still : (up : Bool) (k : ℕ) → k < half → cell_at t₃ up k ≡ cell_at t₂ up k
  still up k l = c.other up k (omega arith) (inl (omega arith))

  zeros : {side : ℕ} → Side side → Shelf (λ up k. 0) t₃ (side + limit_of rule) (gap_of rule)
  zeros {side} (inl e) = let d : side + limit_of rule ≡ limit_of rule = omega arith in rw d (row_same (λ up k l. still up _ (omega (arith, most))) b.row)
  zeros (inr e) = rw e c.row

  pub level-none : Levelled u rule survival weights (record { reach = load_of rule weights (length survival) + 1; left = 0; from = 0 }) t₃
  unfolding value sum_below
  level-none = record {
    asked = asked-kept c.kept (asked-kept b.kept (asked-kept a.kept y));
    side = inl refl;
    some = omega arith;
    reach = omega arith;
    row = record { is = λ up k l. still up _ (omega (arith, most)) ∙ b.other up _ (omega (arith, most)) (inl (omega arith)) ∙ a.row.is up k (omega arith) };
    behind = zeros;
  }
