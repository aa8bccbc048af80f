-- Request 10: low of the lower list and high of the upper one enclose the exact sum over the floats' own values, at most 2n - 1 units apart; under kind 3
-- every float is on the grid, both lists are one, and they are at most n - 1 apart. The own values are finer numbers between the two lists (`Finer`), at
-- 2^1044 times the unit. Assumes nothing.
use mathlib.Core.Path.{◌≡◌, refl, sym, ap, ◌∙◌, subst}
use mathlib.Core.Bool.{Bool, true, false, not}
use mathlib.Core.List.{List, [], map}
use Prim.Native.Nat.{ℕ, ◌*◌, ◌-◌, ◌^◌, ◌≤◌, ◌<◌, zero-le}
use native.Mathlib.Omega.{arith}
use native.Mathlib.Decide.{dec_lt}
use native.Mathlib.Nat.{le_of_eq}
use lib.ListN.{length, get_or, length-map, get_or-map, get_or-eq_default}
use lib.Seq.{ext_get_or}
use borrow.Author.Tests.{not-false, ltb-false, le-ltb}
use Rattle.rules.specs.declared.Rule.{Rule}
use Rattle.rules.specs.declared.Rating.TheVariants.{Range}
use Rattle.rules.specs.Below.{some, within}
use Rattle.rules.specs.State.{S, unit_of}
use Rattle.rules.specs.Figure.{rounded, low, high, exact, Third}
use Rattle.rules.specs.Boards.{has_boards}
use Rattle.rules.specs.Stretch.{stretch}
use Rattle.rules.specs.Asked.{question_of, asked_of, weights_of, rounded_of}
use Rattle.rules.specs.Refusal.{last_kind, cells, bad_kind, bad_size, bad_stretch, bad_weights, in_range, first_of, figures_refusal}
use Rattle.rules.specs.Better.{excepted, rising}
use Rattle.rules.specs.Doubles.{parts, spelt, own, is_chance, whole_of, on_grid, Planned, asked_in, low_in, high_in, floats_of, size_in, read_in, exact_in, no_chance, some_off, off_grid, planned_refusal, planned_rating, widest, Spanned, SpannedOf}
use Rattle.rules.proofs.Lists.{map-stretch}
use Rattle.rules.proofs.Tests.{by-test}
use Rattle.rules.proofs.Windows.{some-none, not-lt}
use Rattle.rules.proofs.Units.{unit-some}
use Rattle.rules.proofs.Conditions.{above-none, figure-within, third}
use Rattle.rules.proofs.Accepted.{none_first, answered, in-stretch, stretch-length, figures-ratable}
use Rattle.rules.proofs.WithoutBoards.{rounded-before}
use Rattle.rules.proofs.Scaling.{scaled, scaled-get, exact-scaled}
use Rattle.rules.proofs.Grid.{cell, cell-pos, parts_is, parts-power, under, over, one_apart, small, equal-on-grid, on-grid}
use Rattle.rules.proofs.Finer.{Finer, finer-low, finer-high, finer-width, step-low, step-high}

-- ---- lists of floats

-- no float among those read is refused: each is a chance, and so is what stands for none
each-passes : (p : ℕ → Bool) → p 0 ≡ true → (fs : List ℕ) → some (λ i. not (p (get_or fs i 0))) (length fs) ≡ false → (i : ℕ) → p (get_or fs i 0) ≡ true
each-passes p none fs e i = go (dec_lt i (length fs))
  where
    by : (b : Bool) → (not b ≡ true → ⊥) → b ≡ true
    by true h = refl
    by false h = absurd (h refl)

    go : Dec (i < length fs) → p (get_or fs i 0) ≡ true
    go (yes l) = by (p (get_or fs i 0)) ((some-none (λ i. not (p (get_or fs i 0))) (length fs)).0 e i l)
    go (no l) = ap p (get_or-eq_default fs 0 {n = i} (not-lt _ _ l)) ∙ none

pub each-chance : (fs : List ℕ) → no_chance fs ≡ false → (i : ℕ) → is_chance (get_or fs i 0) ≡ true
unfolding no_chance
each-chance fs = each-passes is_chance nought fs
  where
    nought : is_chance 0 ≡ true
    nought = unfold is_chance own spelt parts in refl

each-on-grid : (fs : List ℕ) → some_off fs ≡ false → (i : ℕ) → on_grid (get_or fs i 0) ≡ true
unfolding some_off
each-on-grid fs = each-passes on_grid nought fs
  where
    nought : on_grid 0 ≡ true
    nought = unfold on_grid own spelt parts in refl

pub whole-get : (up : Bool) (fs : List ℕ) (i : ℕ) → get_or (map (whole_of up) fs) i 0 ≡ whole_of up (get_or fs i 0)
whole-get up fs i = ap (get_or (map (whole_of up) fs) i) (nought up) ∙ get_or-map (whole_of up) fs i 0
  where
    nought : (up : Bool) → 0 ≡ whole_of up 0
    nought false = unfold whole_of rounded own spelt parts in refl
    nought true = unfold whole_of rounded own spelt parts in refl

own-get : (fs : List ℕ) (i : ℕ) → get_or (map own fs) i 0 ≡ own (get_or fs i 0)
own-get fs i = ap (get_or (map own fs) i) nought ∙ get_or-map own fs i 0
  where
    nought : 0 ≡ own 0
    nought = unfold own spelt in refl

-- ---- the enclosure, of a list of chances

module _ (rule : Rule) (fs beside : List ℕ) (chances : (i : ℕ) → is_chance (get_or fs i 0) ≡ true) where
  abbrev list : Bool → List ℕ
  list up = map (whole_of up) fs

  units : (up : Bool) (i : ℕ) → get_or (list up) i 0 ≤ S
  units up i = rw (whole-get up fs i) (small (get_or fs i 0) up (chances i))

  finer : Finer S cell (list false) (list true) (map own fs)
  finer = record {
    lower_length = length-map fs (whole_of false) ∙ sym (length-map fs own);
    upper_length = length-map fs (whole_of true) ∙ sym (length-map fs own);
    under = λ i. rw (whole-get false fs i, own-get fs i) (under (get_or fs i 0));
    over = λ i. rw (whole-get true fs i, own-get fs i) (over (get_or fs i 0));
    near = λ i. rw (whole-get true fs i, whole-get false fs i) (one_apart (get_or fs i 0));
    small = units true;
  }

  module _ (fans : 0 < length fs) (range : in_range rule (length fs) beside ≡ true) where
    third_of : (up : Bool) → Third S (length fs) (low S rule (list up) beside) (high S rule (list up) beside) (exact S rule (list up) beside)
    third_of up =
        let n = length-map fs (whole_of up) in
        subst (λ (k : ℕ). Third S k (low S rule (list up) beside) (high S rule (list up) beside) (exact S rule (list up) beside)) n
        (third (omega arith) rule (list up) beside (rw n fans) (units up) (rw n range))

    -- what each list's exact sum says of the own values'
    spanned : (w E : ℕ) → cell ^ length fs * exact S rule (list false) beside ≤ E → E ≤ cell ^ length fs * exact S rule (list true) beside
        → high S rule (list true) beside - low S rule (list false) beside ≤ w
        → Spanned (length fs) w (low S rule (list false) beside) (high S rule (list true) beside) E
    spanned w E below above wide =
        let power : (cell * S) ^ length fs ≡ 2 ^ (1074 * length fs) = ap (λ (p : ℕ). p ^ length fs) (sym parts_is) ∙ parts-power (length fs) in
        record {
          above_low = rw power at (step-low cell S (length fs) _ _ E fans (third_of false).above_low below);
          below_high = rw power at (step-high cell S (length fs) _ _ E fans (third_of true).below_high above);
          width = wide;
        }

    pub rising-spanned : rising rule.kind ≡ true
        → Spanned (length fs) (2 * length fs - 1) (low S rule (list false) beside) (high S rule (list true) beside) (exact parts rule (map own fs) beside)
    rising-spanned kind =
        let n = length-map fs own in
        rw parts_is
        (spanned (2 * length fs - 1) _
        (subst (λ (k : ℕ). cell ^ k * exact S rule (list false) beside ≤ exact (cell * S) rule (map own fs) beside) (length-map fs (whole_of false))
        (finer-low cell-pos finer rule beside kind (rw n range)))
        (subst (λ (k : ℕ). exact (cell * S) rule (map own fs) beside ≤ cell ^ k * exact S rule (list true) beside) (length-map fs (whole_of true))
        (finer-high cell-pos finer rule beside kind (rw n range)))
        (rw n at (finer-width cell-pos finer rule beside (omega arith) (rw n fans))))

    module _ (grid : (i : ℕ) → on_grid (get_or fs i 0) ≡ true) where
      one_list : list false ≡ list true
      one_list =
          ext_get_or 0 (list false) (list true) (length-map fs (whole_of false) ∙ sym (length-map fs (whole_of true)))
          (λ i l. whole-get false fs i ∙ (equal-on-grid (get_or fs i 0)).1 (grid i) ∙ sym (whole-get true fs i))

      owns-are : (up : Bool) → map own fs ≡ scaled cell (list up)
      owns-are up =
          ext_get_or 0 (map own fs) (scaled cell (list up)) (length-map fs own ∙ sym (length-map (list up) (λ x. cell * x) ∙ length-map fs (whole_of up)))
          (λ i l. own-get fs i ∙ on-grid (get_or fs i 0) up (grid i) ∙ sym (scaled-get cell (list up) i ∙ ap (λ (x : ℕ). cell * x) (whole-get up fs i)))

      same_sum : (up : Bool) → exact (cell * S) rule (map own fs) beside ≡ cell ^ length fs * exact S rule (list up) beside
      same_sum up =
          ap (λ (vs : List ℕ). exact (cell * S) rule vs beside) (owns-are up) ∙ exact-scaled cell S rule (list up) beside
          ∙ ap (λ (n : ℕ). cell ^ n * exact S rule (list up) beside) (length-map fs (whole_of up))

      pub grid-spanned : Spanned (length fs) (length fs - 1) (low S rule (list false) beside) (high S rule (list true) beside) (exact parts rule (map own fs) beside)
      grid-spanned =
          rw parts_is
          (spanned (length fs - 1) _ (le_of_eq (sym (same_sum false))) (le_of_eq (same_sum true))
          (subst (λ (xs : List ℕ). high S rule xs beside - low S rule (list false) beside ≤ length fs - 1) one_list (third_of false).width))

-- ---- what is asked in floats and not refused

pub record Passed (q : Planned) (table : List ℕ) : Type 0 where
  pub kind : bad_kind q.rule ≡ false
  pub size : bad_size (length q.survival) ≡ false
  pub inside : bad_stretch q.a q.b (length q.survival) ≡ false
  pub chances : no_chance (floats_of q) ≡ false
  pub weighed : bad_weights q.rule (length q.survival) q.weights (weights_of (asked_in false q)) ≡ false
  pub range : not (in_range q.rule (size_in q) (read_in q)) ≡ false
  pub grid : off_grid q.rule (floats_of q) ≡ false
  pub room : cells ≤ length table

module _ (q : Planned) (table : List ℕ) (none : planned_refusal q table ≡ 0) where
  pub passed : Passed q table
  unfolding planned_refusal
  passed =
      let one = none_first 0 _ _ none in
      let two = none_first 1 _ _ one.1 in
      let three = none_first 2 _ _ two.1 in
      let eighteen = none_first 17 _ _ three.1 in
      let five = none_first 4 _ _ eighteen.1 in
      let six = none_first 5 _ _ five.1 in
      let nineteen = none_first 18 _ _ six.1 in
      let seven = none_first 6 _ _ nineteen.1 in
      record {
        kind = one.0;
        size = two.0;
        inside = three.0;
        chances = eighteen.0;
        weighed = five.0;
        range = six.0;
        grid = nineteen.0;
        room = ltb-false _ _ seven.0;
      }

  -- a list of whole numbers that has the stretch's: the figures do not refuse it
  pub planned-accepted : (up : Bool) (xs : List ℕ) → length xs ≡ length q.survival → stretch q.a q.b xs ≡ map (whole_of up) (floats_of q)
      → figures_refusal (asked_of (question_of 1 q.rule q.a q.b) xs q.weights q.more [] []) table ≡ 0
  unfolding figures_refusal first_of unit_of
  planned-accepted up xs long part =
      let units = units q.rule (floats_of q) (read_in q) (each-chance (floats_of q) passed.chances) up in
      rw (long, passed.kind, passed.size, passed.inside, part, above-none S (map (whole_of up) (floats_of q)) units, above-none S [] (λ i. zero-le), passed.weighed, passed.range, le-ltb (length table) cells passed.room)

  -- both figures are within 2^30
  pub planned-within : (up : Bool) → rounded_of up (asked_in up q) ≤ S
  unfolding unit_of
  planned-within up =
      let none = planned-accepted up (map (whole_of up) q.survival) (length-map q.survival (whole_of up)) (sym (map-stretch (whole_of up) q.a q.b q.survival)) in
      rw (rounded-before (asked_in up q) refl up) (figure-within up (unit-some 1) q.rule _ _ (figures-ratable (asked_in up q) table none).2.units)

  pub passed-size : length (floats_of q) ≡ size_in q
  passed-size = stretch-length q.a q.b q.survival passed.inside

  abbrev Between : (n w : ℕ) → Type 0
  Between n w = Spanned n w (low S q.rule (map (whole_of false) (floats_of q)) (read_in q)) (high S q.rule (map (whole_of true) (floats_of q)) (read_in q)) (exact_in q)

  -- on the grid under kind 3, by request 09 under every other
  by-grid : Between (length (floats_of q)) (widest q.rule (length (floats_of q)))
  by-grid =
      let n = length (floats_of q) in
      let chances = each-chance (floats_of q) passed.chances in
      let inside = in-stretch q.a q.b (length q.survival) passed.inside in
      let fans : 0 < n = rw passed-size (omega arith) in
      let range : in_range q.rule n (read_in q) ≡ true = rw passed-size (not-false _ passed.range) in
      by-test (Between n) (excepted q.rule.kind) (n - 1) (2 * n - 1)
      (λ out. grid-spanned q.rule (floats_of q) (read_in q) chances fans range (each-on-grid (floats_of q) (rw out at passed.grid)))
      (λ other. rising-spanned q.rule (floats_of q) (read_in q) chances fans range (rw (not-false (within 1 q.rule.kind last_kind) passed.kind, other)))

  pub planned-spanned : SpannedOf q (low_in q) (high_in q)
  unfolding unit_of
  planned-spanned =
      rw (rounded-before (asked_in false q) refl false, rounded-before (asked_in true q) refl true, ← (map-stretch (whole_of false) q.a q.b q.survival), ← (map-stretch (whole_of true) q.a q.b q.survival))
      (subst (λ (n : ℕ). Between n (widest q.rule n)) passed-size by-grid)

-- of every range that is answered
pub planned-answers : (q : Planned) (table : List ℕ) (l h : ℕ) → planned_rating q table ≡ Range l h → SpannedOf q l h
unfolding planned_rating
planned-answers q table l h e =
    let v = answered _ l h _ e in
    let low-is : low_in q ≡ l = cc v.1 in
    let high_is : high_in q ≡ h = cc v.1 in
    rw (← low-is, ← high_is) (planned-spanned q table v.0)
