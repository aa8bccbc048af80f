-- The gain of a spare: the exact difference lies between its two ends, which are at most 2(n + g) - 2 apart and run from minus the unit to the unit, by the same two
-- inequalities as a worth's. E is mixed of E with the fan sure to work and E with it sure to fail by the fan's own P and Q, whatever the rule; so the exact gain
-- of a sure spare is the exact worth times the fan's own Q over the unit. Where no better is spoilt (request 09) a spare that is not below the fan's own
-- number gains nothing below 0. Nothing is rounded here. Assumes nothing.
use mathlib.Core.Path.{◌≡◌, refl, sym, ap, ◌∙◌}
use mathlib.Core.Bool.{Bool, true, false, true≢false, ◌||◌}
use mathlib.Core.List.{List, [], ◌∷◌, ◌++◌}
use Prim.Native.Nat.{ℕ, zero, suc, ◌+◌, ◌*◌, ◌-◌, ◌^◌, ◌≤◌, ◌<◌}
use native.Mathlib.Decide.{ℕ_discrete}
use native.Mathlib.Omega.{arith}
use lib.Dec.{ltb}
use lib.IntN.{ℤ, pos, sub_ℕ, ◌*ℤ◌}
use lib.ListN.{length, get_or, set, drop, length-set, length-append}
use lib.Seq.{set-get_or, get_or-set_same, get_or-set_other, take-set-lt, drop-set-add, set-append_left}
use lib.Signed.{◌≤ℤ◌}
use borrow.Author.Tests.{ltb-false, lt-ltb, not-false}
use Rattle.rules.specs.declared.Worth.TheVariants.{Ends}
use Rattle.rules.specs.State.{number_of, failure}
use Rattle.rules.specs.Figure.{exact_if}
use Rattle.rules.specs.Boards.{works_behind}
use Rattle.rules.specs.Stretch.{stretch}
use Rattle.rules.specs.Asked.{Asked, question_in, asked_of, unit_in, length_of, parts_of, part_of, size_of, read_of, boards_of, switchboards_of, board_count, rounded_of, exact_of}
use Rattle.rules.specs.Refusal.{numbers_above, rating_refusal, figures_refusal}
use Rattle.rules.specs.Answer.{figures_of}
use Rattle.rules.specs.Worth.{swapped, working, failing, bad_fan}
use Rattle.rules.specs.Better.{NoLower, rising}
use Rattle.rules.specs.Gain.{own_of, gain_lower, gain_upper, spare_above, gain_refusal, gain_of, GainBetween}
use Rattle.rules.proofs.Split.{exact-halves, exact-numbers}
use Rattle.rules.proofs.Units.{unit-some}
use Rattle.rules.proofs.Unless.{unless-none, after_none}
use Rattle.rules.proofs.EachKind.{within-true}
use Rattle.rules.proofs.Boards.{behind-within}
use Rattle.rules.proofs.Accepted.{none_first, in-stretch, stretch-length, stretch-get, figures-ratable, figures-boarded, figures-third}
use Rattle.rules.proofs.Differences.{less-le, less_none, less-same, less-times}
use Rattle.rules.proofs.Sure.{after_first, between, chosen-fan, weighs, swapped-accepted, swapped-third, swapped-within, swapped-units}
use Rattle.rules.proofs.Better.{set-better, stretch-better, better-exact-behind}

-- ---- refusals: P is not above the unit, and the figures are not refused

-- 4 not given for P or for the lists
four-less : (above : Bool) (q : Asked) (table : List ℕ) → rating_refusal (above || numbers_above q) q table ≡ 0 → (above ≡ false) × (figures_refusal q table ≡ 0)
unfolding figures_refusal
four-less false q table e = (refl, e)
four-less true q table e =
    let i = none_first 10 _ _ e in
    let v = none_first 0 _ _ i.1 in
    let w = none_first 1 _ _ v.1 in
    let t = none_first 2 _ _ w.1 in
    let g = none_first 19 _ _ t.1 in
    let p = none_first 20 _ _ g.1 in
    absurd (true≢false (none_first 3 _ _ p.1).0)

module _ (q : Asked) (p : ℕ) (table : List ℕ) (none : rating_refusal (spare_above q p) q table ≡ 0) where
  pub rating-accepted : figures_refusal q table ≡ 0
  rating-accepted = (four-less (ltb (unit_in q) p) q table none).1

  pub rating-small : p ≤ unit_in q
  rating-small = ltb-false (unit_in q) p (four-less (ltb (unit_in q) p) q table none).0

module _ (q : Asked) (fan p : ℕ) (table : List ℕ) (none : gain_refusal q fan p table ≡ 0) where
  pub gain-accepted : figures_refusal q table ≡ 0
  gain-accepted = rating-accepted q p table (after_first _ _ none)

  pub gain-small : p ≤ unit_in q
  gain-small = rating-small q p table (after_first _ _ none)

  pub gain-chosen : bad_fan q fan ≡ false
  gain-chosen = chosen-fan (bad_fan q fan) (sym (after_none _ _ (after_first _ _ none)) ∙ none)

-- ---- the ends

module _ (q : Asked) (table : List ℕ) where
  pub figures-within : figures_refusal q table ≡ 0 → (up : Bool) → rounded_of up q ≤ unit_in q
  figures-within none =
      behind-within (unit_in q) (unit-some q.version) q.rule (part_of q) (read_of q) (boards_of q) (switchboards_of q) (figures-ratable q table none).2.units
      (figures-boarded q table none).1.units

  module _ (fan p : ℕ) where
    swap-between : figures_refusal q table ≡ 0 → p ≤ unit_in q → GainBetween q fan p (gain_lower q fan p) (gain_upper q fan p)
    unfolding figures_of
    swap-between none small =
        let after = swapped-within q table fan p none small in
        let before = figures-within none in
        let inside = in-stretch q.a q.b (length_of q) (figures-ratable q table none).0 in
        between (unit_in q) (parts_of q) _ _ _ _ _ _ (omega arith) (swapped-third q table fan p none small) (figures-third q table _ _ (unless-none _ _ _ none))
        (after false) (after true) (before false) (before true)

    -- of every gain that is answered
    pub gain-between : (l h : ℤ) → gain_of q fan p table ≡ Ends l h → GainBetween q fan p l h
    unfolding gain_of
    gain-between l h e =
        let v = (weighs (Ends l h) _ _ _).1 (sym e) in
        rw (v.1, v.2) (swap-between (gain-accepted q fan p table v.0) (gain-small q fan p table v.0))

-- ---- E is mixed by the fan's own P and Q

-- a fan swapped for its like
pub own-swapped : (q : Asked) (fan : ℕ) → swapped fan (own_of q fan) q ≡ q
own-swapped q fan = ap (λ xs. asked_of (question_in q) xs q.weights q.more q.boards q.switchboards) (set-get_or q.survival (fan - 1) 0)

top-mixed : (u x y a b : ℕ) → (x * a + y * b) * u ≡ x * (u * a + 0 * b) + y * (0 * a + u * b)
top-mixed u x y a b = omega arith

below-mixed : (u x y c d a a₁ a₀ b b₁ b₀ : ℕ) → a * u ≡ x * a₁ + y * a₀ → b * u ≡ x * b₁ + y * b₀
    → (c * a + d * b) * u ≡ x * (c * a₁ + d * b₁) + y * (c * a₀ + d * b₀)
below-mixed u x y c d a a₁ a₀ b b₁ b₀ h k = omega (arith, ap (λ v. c * v) h, ap (λ v. d * v) k)

module _ (u x j : ℕ) (xs : List ℕ) (inside : j < length xs) where
  -- the numbers with the one at j replaced
  abbrev at : ℕ → ℕ → ℕ
  at y = number_of (set xs j y)

  there : (y : ℕ) → at y (suc j) ≡ y
  unfolding number_of
  there y = get_or-set_same xs j y 0 inside

  elsewhere : (y y' i : ℕ) → (i ≡ j → ⊥) → at y (suc i) ≡ at y' (suc i)
  unfolding number_of
  elsewhere y y' i other = get_or-set_other xs j i y 0 other ∙ sym (get_or-set_other xs j i y' 0 other)

  -- what any test adds up to with x there, by what it does with the unit there and with 0
  exact-mixed : (n : ℕ) (t : ℕ → Bool) → j < n → exact_if t u (at x) n * u ≡ x * exact_if t u (at u) n + failure u x * exact_if t u (at 0) n
  exact-mixed zero t l = absurd (omega arith)
  exact-mixed (suc n) t l = elim (ℕ_discrete n j) [
    | yes e ↦
        let same : (y : ℕ) (t : ℕ → Bool) → exact_if t u (at y) n ≡ exact_if t u (at x) n
        = λ y t. exact-numbers t u (at y) (at x) n (λ i m. elsewhere y x i (λ f. omega arith)) in
        let value : (y : ℕ) → at y (suc n) ≡ y = λ y. ap (λ i. at y (suc i)) e ∙ there y in
        let none : failure u u ≡ 0 = omega arith in
        let all : failure u 0 ≡ u = omega arith in
        let high : ℕ → Bool = λ w. t (1 * 2 ^ n + w) in
        rw (exact-halves t u (at x) n, exact-halves t u (at u) n, exact-halves t u (at 0) n, value x, value u, value 0, none, all, same u t, same 0 t, same u high, same 0 high)
        (top-mixed u x (failure u x) _ _)
    | no other ↦
        let same : (y : ℕ) → at y (suc n) ≡ at x (suc n) = λ y. elsewhere y x n other in
        rw (exact-halves t u (at x) n, exact-halves t u (at u) n, exact-halves t u (at 0) n, same u, same 0)
        (below-mixed u x (failure u x) (at x (suc n)) (failure u (at x (suc n))) _ _ _ _ _ _ (exact-mixed n t (omega (arith, other))) (exact-mixed n (λ w. t (1 * 2 ^ n + w)) (omega (arith, other))))
  ]

-- ---- of a stretch

module _ (q : Asked) (table : List ℕ) (fan : ℕ) (none : figures_refusal q table ≡ 0) (in-it : bad_fan q fan ≡ false) where
  inside : (1 ≤ q.a) × (q.a ≤ fan) × (fan ≤ q.b) × (q.b ≤ length_of q)
  inside =
      let h = in-stretch q.a q.b (length_of q) (figures-ratable q table none).0 in
      let k = within-true q.a fan q.b (not-false _ in-it) in
      (h.0, k.0, k.1, h.2)

  part-swapped : (p : ℕ) → part_of (swapped fan p q) ≡ set (part_of q) (fan - q.a) p
  unfolding stretch
  part-swapped p =
      let e : fan - 1 ≡ (q.a - 1) + (fan - q.a) = omega (arith, inside) in
      rw (e, drop-set-add (q.a - 1) q.survival (fan - q.a) p)
      (take-set-lt (size_of q) (drop (q.a - 1) q.survival) (fan - q.a) p (omega (arith, inside)))

  in-part : fan - q.a < length (part_of q)
  in-part = omega (arith, inside, stretch-length q.a q.b q.survival (figures-ratable q table none).0)

  exact-swapped : (p : ℕ)
      → exact_of (swapped fan p q)
      ≡ exact_if (works_behind q.rule (length (part_of q)) (read_of q) (boards_of q)) (unit_in q) (number_of (set (part_of q ++ switchboards_of q) (fan - q.a) p)) (length (part_of q) + board_count q)
  exact-swapped p =
      rw (part-swapped p, length-set (part_of q) (fan - q.a) p, set-append_left (part_of q) (switchboards_of q) (fan - q.a) p in-part)

  -- E times the unit, by E with the fan sure to work and with it sure to fail
  pub swapped-mixed : (p : ℕ) → exact_of (swapped fan p q) * unit_in q ≡ p * exact_of (working fan q) + failure (unit_in q) p * exact_of (failing fan q)
  swapped-mixed p =
      rw (exact-swapped p, exact-swapped (unit_in q), exact-swapped 0)
      (exact-mixed (unit_in q) p (fan - q.a) (part_of q ++ switchboards_of q) (omega (arith, in-part, length-append (part_of q) (switchboards_of q)))
      (length (part_of q) + board_count q) _ (omega (arith, in-part)))

  -- the fan's own number is one of the stretch's
  own-small : own_of q fan ≤ unit_in q
  own-small =
      let e : q.a - 1 + (fan - q.a) ≡ fan - 1 = omega (arith, inside) in
      let l : ltb (fan - q.a) (size_of q) ≡ true = lt-ltb (fan - q.a) (size_of q) (omega (arith, inside)) in
      rw (stretch-get q.a q.b q.survival (fan - q.a), l, e) at ((figures-ratable q table none).2.units (fan - q.a))

  -- the exact gain of a sure spare is the exact worth times the fan's own failure number over the unit
  pub sure-gain : sub_ℕ (exact_of (working fan q)) (exact_of q) *ℤ pos (unit_in q) ≡ sub_ℕ (exact_of (working fan q)) (exact_of (failing fan q)) *ℤ pos (failure (unit_in q) (own_of q fan))
  sure-gain =
      let w = exact_of (working fan q) in
      let f = exact_of (failing fan q) in
      let own = own_of q fan in
      let d = failure (unit_in q) own in
      let whole : unit_in q ≡ own + d = omega (arith, own-small) in
      let mixed : exact_of q * unit_in q ≡ own * w + d * f = sym (ap (λ r. exact_of r * unit_in q) (own-swapped q fan)) ∙ swapped-mixed own in
      less-times w (exact_of q) (unit_in q) ∙ less-same (w * unit_in q) (exact_of q * unit_in q) (w * d) (f * d) (omega (arith, mixed, ap (λ v. w * v) whole)) ∙ sym (less-times w f d)

  -- where no better list is spoilt, a spare that is not below the fan's own number takes nothing away
  pub exact-rising : (p : ℕ) → rising q.rule.kind ≡ true → own_of q fan ≤ p → p ≤ unit_in q → exact_of q ≤ exact_of (swapped fan p q)
  exact-rising p kind not-below small =
      let part = swapped-units q table fan p none small in
      let better : NoLower (part_of q) (part_of (swapped fan p q)) = rw (set-get_or q.survival (fan - 1) 0) at (stretch-better q.a q.b (set-better q.survival (fan - 1) (own_of q fan) p not-below)) in
      better-exact-behind (unit_in q) q.rule (part_of q) (part_of (swapped fan p q)) (read_of q) (boards_of q) (switchboards_of q) kind better part
      (rw (← better.same_length) (figures-ratable q table none).2.accepted.in-range)

-- and so it is of every gain that is answered: the exact gain is not negative
pub gain-rising : (q : Asked) (table : List ℕ) (fan p : ℕ) (l h : ℤ) → rising q.rule.kind ≡ true → own_of q fan ≤ p → gain_of q fan p table ≡ Ends l h
    → pos 0 ≤ℤ sub_ℕ (exact_of (swapped fan p q)) (exact_of q)
unfolding gain_of
gain-rising q table fan p l h kind not-below e =
    let v = (weighs (Ends l h) _ _ _).1 (sym e) in
    let none = gain-accepted q fan p table v.0 in
    let in-it = gain-chosen q fan p table v.0 in
    rw (← (less_none 0))
    (less-le 0 0 (exact_of (swapped fan p q)) (exact_of q) (omega (arith, exact-rising q table fan none in-it p kind not-below (gain-small q fan p table v.0))))
