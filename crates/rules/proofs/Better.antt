-- Request 09: a better fan never spoils the figure. A kind's row respects an order of its memories (`Orders`), so a list in which no survival number is
-- lower has no lower figure, rounded down or up, and no lower exact sum; behind boards too, since a set of failed boards has no lower list than a
-- larger one (`FewerOut`); the same of what is asked and of what is answered. A fan sure to work is better than one sure to fail, so the upper end of its worth is
-- not below 0. Assumes nothing.
use mathlib.Core.Path.{◌≡◌, refl, sym, ap, ◌∙◌}
use mathlib.Core.Bool.{Bool, true, false, false≢true}
use mathlib.Core.List.{List, [], ◌∷◌}
use Prim.Native.Nat.{ℕ, zero, suc, ◌+◌, ◌*◌, ◌-◌, ◌≤◌, ◌<◌, zero-le}
use native.Mathlib.Omega.{arith}
use native.Mathlib.Nat.{le_refl, le_trans, add-le-add, mul-le-mul_left, le_of_mul-le-mul_right, one-le-pow}
use lib.Dec.{ltb}
use lib.IntN.{ℤ, pos}
use lib.ListN.{length, get_or, set, length-set, length-take, length-drop}
use lib.Signed.{◌≤ℤ◌}
use Rattle.rules.specs.declared.Rule.{Rule}
use Rattle.rules.specs.declared.Question.{Question}
use Rattle.rules.specs.declared.Rating.TheVariants.{Range}
use Rattle.rules.specs.declared.Worth.TheVariants.{Ends}
use Rattle.rules.specs.Below.{within}
use Rattle.rules.specs.State.{unit_of, rule_of, number_of, failure}
use Rattle.rules.specs.Pairs.{pairs_of}
use Rattle.rules.specs.Verdict.{works}
use Rattle.rules.specs.Memory.{run, live, machine_of, Reading, reading, reading_of, row1, row4, row5, row6, row7, row8}
use Rattle.rules.specs.Figure.{figure_of, figure, exact_if, exact}
use Rattle.rules.specs.Boards.{figure_behind, exact_behind}
use Rattle.rules.specs.Stretch.{stretch}
use Rattle.rules.specs.Asked.{Asked, question_in, asked_of, unit_in, parts_of, part_of, read_of, boards_of, switchboards_of, rounded_of, low_of, high_of}
use Rattle.rules.specs.Refusal.{last_kind, in_range, figures_refusal}
use Rattle.rules.specs.Answer.{figures_of}
use Rattle.rules.specs.Worth.{working, failing, worth_of}
use Rattle.rules.specs.Better.{NoLower, rising, Better}
use Rattle.rules.proofs.Tests.{both, by_both}
use Rattle.rules.proofs.Split.{exact_same}
use Rattle.rules.proofs.Monotone.{value-raise, exact-raise}
use Rattle.rules.proofs.Orders.{Worse, Respects, row-ordered, More, Longer, Owing, row1-respects, row4-respects, row5-respects, row6-respects, row7-respects, MoreDown, row8-respects}
use Rattle.rules.proofs.EachKind.{each-kind, within-true}
use Rattle.rules.proofs.Units.{unit-some}
use Rattle.rules.proofs.Conditions.{reading-is-verdict, below-unit}
use Rattle.rules.proofs.Sets.{over_sets, behind-length, exact-boards, sets-none, sets_first}
use Rattle.rules.proofs.Boards.{behind-units}
use Rattle.rules.proofs.Answer.{rates}
use Rattle.rules.proofs.Accepted.{stretch-get, figures-ratable, figures-boarded}
use Rattle.rules.proofs.FewerOut.{same_out, behind-better, combined-better}
use Rattle.rules.proofs.Differences.{less-le, less_none}
use Rattle.rules.proofs.Sure.{after_first, weighs, swapped-accepted, swapped-third}

-- ---- better lists

pub numbers : (xs ys : List ℕ) → NoLower xs ys → (i : ℕ) → number_of xs i ≤ number_of ys i
unfolding number_of
numbers xs ys better zero = le_refl 0
numbers xs ys better (suc i) = better.no_lower i

pub stretch-better : (a b : ℕ) {xs ys : List ℕ} → NoLower xs ys → NoLower (stretch a b xs) (stretch a b ys)
unfolding stretch
stretch-better a b {xs} {ys} better = record {
  same_length = simp (length-take, length-drop, better.same_length);
  no_lower =
      λ i. rw (stretch-get a b xs i, stretch-get a b ys i)
      (by_both ◌≤◌ (ltb i (suc b - a)) _ _ _ _ (λ l. better.no_lower (a - 1 + i)) (λ l. le_refl 0));
}

pub set-better : (xs : List ℕ) (j p p' : ℕ) → p ≤ p' → NoLower (set xs j p) (set xs j p')
set-better xs j p p' h = record { same_length = length-set xs j p ∙ sym (length-set xs j p'); no_lower = go xs j }
  where
    go : (xs : List ℕ) (j i : ℕ) → get_or (set xs j p) i 0 ≤ get_or (set xs j p') i 0
    go [] j i = le_refl _
    go (x ∷ xs) zero zero = h
    go (x ∷ xs) zero (suc i) = le_refl _
    go (x ∷ xs) (suc j) zero = le_refl _
    go (x ∷ xs) (suc j) (suc i) = go xs j i

-- a better list asked the same
pub asked-better : (question : Question) {xs ys : List ℕ} (weights more boards switchboards : List ℕ) → NoLower xs ys
    → Better (asked_of question xs weights more boards switchboards) (asked_of question ys weights more boards switchboards)
asked-better question weights more boards switchboards better = record {
  version = refl;
  rule = refl;
  from = refl;
  to = refl;
  weights = refl;
  more = refl;
  boards = refl;
  survival = stretch-better question.a question.b better;
  switchboards = record { same_length = refl; no_lower = λ i. le_refl _ };
}

-- ---- what holds of every row that respects an order holds of the row of every kind of which it is claimed

module _ (P : Reading → Type 0) (by_order : (R : Reading) (W : R.Live → R.Live → Type 0) → Respects R.row W → P R) (beside : List ℕ) where
  by_kind : (first second kind : ℕ) → 1 ≤ kind → kind ≤ last_kind → rising kind ≡ true → P (reading_of (rule_of kind first second) beside)
  unfolding reading_of
  by_kind first second =
      each-kind (λ kind. rising kind ≡ true → P (reading_of (rule_of kind first second) beside))
      (λ e. by_order (reading (row1 first (λ i. 1))) More (row1-respects first (λ i. 1)))
      (λ e. by_order (reading (row1 first (number_of beside))) More (row1-respects first (number_of beside)))
      (λ e. absurd (false≢true e))
      (λ e. by_order (reading (row4 first)) More (row4-respects first))
      (λ e. by_order (reading (row5 first)) Longer (row5-respects first))
      (λ e. by_order (reading (row6 second)) More (row6-respects second))
      (λ e. by_order (reading (row7 second)) (Owing second) (row7-respects second))
      (λ e. by_order (reading (row8 (pairs_of first second beside))) MoreDown (row8-respects (pairs_of first second beside)))

  by-rising : (rule : Rule) → rising rule.kind ≡ true → P (reading_of rule beside)
  by-rising rule e =
      let k = within-true 1 rule.kind last_kind (both (within 1 rule.kind last_kind) _ e).0 in
      by_kind rule.first rule.second rule.kind k.0 k.1 e

-- ---- their figures and their exact sums, of any unit

module _ (u : ℕ) (xs ys beside : List ℕ) (better : NoLower xs ys) (units : (i : ℕ) → get_or ys i 0 ≤ u) where
  module _ (up : Bool) (some : 0 < u) where
    row-figure : (R : Reading) (W : R.Live → R.Live → Type 0) → Respects R.row W → figure_of R.row up u xs ≤ figure_of R.row up u ys
    row-figure R W r =
        rw better.same_length
        (value-raise (machine_of R.row) (Worse W) (row-ordered R.row W r) up u some (length ys) (number_of xs) (number_of ys)
        (λ i l. below-unit ys units i) (λ i l. numbers xs ys better i) (live R.row.start))

    pub better-figure : (rule : Rule) → rising rule.kind ≡ true → figure up u rule xs beside ≤ figure up u rule ys beside
    better-figure = by-rising (λ R. figure_of R.row up u xs ≤ figure_of R.row up u ys) row-figure beside

  -- as a reading gives them
  abbrev readSum : Reading → List ℕ → ℕ
  readSum R zs = exact_if (run (machine_of R.row) (length ys) (live R.row.start)) u (number_of zs) (length ys)

  row-exact : (R : Reading) (W : R.Live → R.Live → Type 0) → Respects R.row W → readSum R xs ≤ readSum R ys
  row-exact R W r =
      exact-raise (machine_of R.row) (Worse W) (row-ordered R.row W r) u (length ys) (number_of xs) (number_of ys)
      (λ i l. below-unit ys units i) (λ i l. numbers xs ys better i) (live R.row.start)

  pub better-exact : (rule : Rule) → rising rule.kind ≡ true → in_range rule (length ys) beside ≡ true → exact u rule xs beside ≤ exact u rule ys beside
  better-exact rule kind range =
      let read : (zs : List ℕ) → readSum (reading_of rule beside) zs ≡ exact_if (works rule (length ys) beside) u (number_of zs) (length ys)
      = λ zs. exact_same _ _ u (number_of zs) (length ys) (λ w l. reading-is-verdict rule (length ys) beside w range l) in
      rw (better.same_length, ← (read xs), ← (read ys)) (by-rising (λ R. readSum R xs ≤ readSum R ys) row-exact beside rule kind)

-- ---- behind boards: no lower list for a set of failed boards than for a larger one, and a larger number on the larger figure

module _ (up : Bool) (u : ℕ) (some : 0 < u) (rule : Rule) (kind : rising rule.kind ≡ true) (beside boards : List ℕ) where
  pub better-behind : (xs ys qs qs' : List ℕ) → NoLower xs ys → NoLower qs qs' → ((i : ℕ) → get_or ys i 0 ≤ u) → ((i : ℕ) → get_or qs' i 0 ≤ u)
      → figure_behind up u rule xs beside boards qs ≤ figure_behind up u rule ys beside boards qs'
  better-behind xs ys qs qs' better boards-better units board-units =
      combined-better up u some qs qs' boards-better board-units _ _
      (λ out. better-figure u _ _ beside (behind-better boards out out xs ys (same_out out) better) (behind-units boards out ys units) up some rule kind)
      (λ out out' fewer.
      better-figure u _ _ beside (behind-better boards out out' ys ys fewer (record { same_length = refl; no_lower = λ i. le_refl _ }))
      (behind-units boards out' ys units) up some rule kind)

-- E over fans and boards: every set of failed boards has no lower E
sets-better : (u : ℕ) (qs : List ℕ) (e e' : ℕ → ℕ) → ((out : ℕ) → e out ≤ e' out) → over_sets u qs e ≤ over_sets u qs e'
sets-better u [] e e' h = rw (sets-none u e, sets-none u e') (h 0)
sets-better u (q ∷ qs) e e' h =
    rw (sets_first u q qs e, sets_first u q qs e')
    (add-le-add (mul-le-mul_left q (sets-better u qs _ _ (λ out. h (out * 2)))) (mul-le-mul_left (failure u q) (sets-better u qs _ _ (λ out. h (out * 2 + 1)))))

pub better-exact-behind : (u : ℕ) (rule : Rule) (xs ys beside boards qs : List ℕ) → rising rule.kind ≡ true → NoLower xs ys → ((i : ℕ) → get_or ys i 0 ≤ u)
    → in_range rule (length ys) beside ≡ true → exact_behind u rule xs beside boards qs ≤ exact_behind u rule ys beside boards qs
better-exact-behind u rule xs ys beside boards qs kind better units range =
    let lower : (i : ℕ) → get_or xs i 0 ≤ u = λ i. le_trans (better.no_lower i) (units i) in
    rw (exact-boards u rule xs beside boards (below-unit xs lower) qs, exact-boards u rule ys beside boards (below-unit ys units) qs)
    (sets-better u qs _ _
    (λ out.
    better-exact u _ _ beside (behind-better boards out out xs ys (same_out out) better) (behind-units boards out ys units) rule kind
    (rw (behind-length boards out ys) range)))

-- ---- of what is asked and answered. That the second is accepted is enough: its numbers are within the unit.

module _ (q q' : Asked) (better : Better q q') (kind : rising q.rule.kind ≡ true) where
  pub better-asked : (table : List ℕ) → figures_refusal q' table ≡ 0 → (low_of q ≤ low_of q') × (high_of q ≤ high_of q')
  better-asked table none = (go false, go true)
    where
      go : (up : Bool) → rounded_of up q ≤ rounded_of up q'
      go up =
          let read : read_of q ≡ read_of q' = rw (better.rule, better.weights, better.more, better.from, better.to) in
          let unit : unit_in q ≡ unit_in q' = ap unit_of better.version in
          let behind : figure_behind up (unit_in q) q.rule (part_of q') (read_of q) (boards_of q) (switchboards_of q') ≡ rounded_of up q' =
          λ x. figure_behind up (unit x) (better.rule x) (part_of q') (read x) (better.boards x) (switchboards_of q') in
          rw (← behind)
          (better-behind up (unit_in q) (unit-some q.version) q.rule kind (read_of q) (boards_of q) (part_of q) (part_of q') (switchboards_of q) (switchboards_of q')
          better.survival better.switchboards (λ i. rw unit ((figures-ratable q' table none).2.units i))
          (λ i. rw unit ((figures-boarded q' table none).1.units i)))

  pub better-answers : (table table' : List ℕ) (l h l' h' : ℕ) → figures_of q table ≡ Range l h → figures_of q' table' ≡ Range l' h'
      → (l ≤ l') × (h ≤ h')
  unfolding figures_of
  better-answers table table' l h l' h' e e' =
      let v = (rates (Range l h) _ _ _).1 (sym e) in
      let v' = (rates (Range l' h') _ _ _).1 (sym e') in
      rw (v.1, v.2, v'.1, v'.2) (better-asked table' v'.0)

-- ---- the worth

module _ (q : Asked) (table : List ℕ) (fan : ℕ) (kind : rising q.rule.kind ≡ true) where
  -- low with the fan sure to fail, low with it sure to work, high with it sure to work
  fails-works : figures_refusal q table ≡ 0 → low_of (failing fan q) ≤ high_of (working fan q)
  fails-works none =
      let better = asked-better (question_in q) q.weights q.more q.boards q.switchboards (set-better q.survival (fan - 1) 0 (unit_in q) zero-le) in
      let third = swapped-third q table fan (unit_in q) none (le_refl _) in
      le_trans (better-asked (failing fan q) (working fan q) better kind table (swapped-accepted q table fan (unit_in q) none (le_refl _))).0
      (le_of_mul-le-mul_right (le_trans third.above_low third.below_high) (one-le-pow (parts_of q - 1) (unit_in q) (unit-some q.version)))

  pub worth-rising : (l h : ℤ) → worth_of q fan table ≡ Ends l h → pos 0 ≤ℤ h
  unfolding worth_of
  worth-rising l h e =
      let v = (weighs (Ends l h) _ _ _).1 (sym e) in
      rw (v.2, ← (less_none 0)) (less-le 0 0 (high_of (working fan q)) (low_of (failing fan q)) (omega (arith, fails-works (after_first _ _ v.0))))
