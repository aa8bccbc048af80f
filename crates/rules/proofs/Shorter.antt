-- Request 03 mends row 6, and nothing that was answered before has changed its answer. Before it row 6 was windows on the line, with r at most n: there
-- the two verdicts are one (`near-window`), so counts and E are too; low and high are by the memory table, which is the same; and an input that was not
-- refused is not. Assumes nothing.
use mathlib.Core.Path.{◌≡◌, refl, sym, ap, ◌∙◌}
use mathlib.Core.Bool.{Bool, true, false, cond, not}
use mathlib.Core.List.{List, [], ◌∷◌}
use Prim.Native.Nat.{ℕ, suc, min, ◌≤◌}
use native.Mathlib.Omega.{arith}
use lib.Dec.{eqb}
use lib.ListN.{length}
use borrow.Author.Tests.{eqb-true, le-leb, not-false}
use Rattle.rules.specs.declared.Rule.{Rule}
use Rattle.rules.specs.Below.{total}
use Rattle.rules.specs.State.{number_of, beside_of}
use Rattle.rules.specs.Verdict.{some_window, fails}
use Rattle.rules.specs.Count.{count_if, count_of}
use Rattle.rules.specs.Figure.{exact, exact_if}
use Rattle.rules.specs.Asked.{Asked, unit_in, length_of, size_of, part_of, weights_of, read_of, boards_of, switchboards_of, board_count}
use Rattle.rules.specs.Refusal.{most, bad_version, bad_kind, bad_size, bad_stretch, bad_boards, misplaced, above_unit, bad_weights, range_two, ranged, in_range, not_counted, short_table, short_room, high_one, first_of, verdict_refusal, count_refusal, figures_refusal}
use Rattle.rules.proofs.EachKind.{within-true}
use Rattle.rules.proofs.Tests.{both}
use Rattle.rules.proofs.Split.{exact_same, count_same}
use Rattle.rules.proofs.Apart.{near-window}
use Rattle.rules.proofs.Accepted.{none_first, first-after, in-stretch}

-- the range and the verdict as they were
abbrev pub ranged_before : Rule → (n total : ℕ) (more : List ℕ) → Bool
ranged_before rule n total more = cond (eqb rule.kind 6) (range_two rule.first rule.second n) (ranged rule n total more)

abbrev pub in_range_before : Rule → (n : ℕ) (beside : List ℕ) → Bool
in_range_before rule n beside = ranged_before rule n (total beside) beside

abbrev pub fails_before : Rule → (n : ℕ) (weights : List ℕ) (w : ℕ) → Bool
fails_before rule n weights w = cond (eqb rule.kind 6) (some_window false n rule.second 2 w) (fails rule n weights w)

module _ (rule : Rule) (n : ℕ) where
  pub range-before : (t : ℕ) (more : List ℕ) → n ≤ most → ranged_before rule n t more ≡ true → ranged rule n t more ≡ true
  unfolding ranged
  range-before t more small = go (eqb rule.kind 6) refl
    where
      go : (six : Bool) → eqb rule.kind 6 ≡ six → cond six (range_two rule.first rule.second n) (ranged rule n t more) ≡ true → ranged rule n t more ≡ true
      go false e h = h
      go true e h =
          let two = both (eqb rule.first 2) _ h in
          let r = within-true 2 rule.second n two.1 in
          rw (eqb-true rule.kind 6 e, two.0, le-leb 2 rule.second r.0) (le-leb rule.second most (omega arith))

  module _ (weights : List ℕ) (range : in_range_before rule n weights ≡ true) where
    pub fails-before : (w : ℕ) → fails rule n weights w ≡ fails_before rule n weights w
    unfolding fails
    fails-before w = go (eqb rule.kind 6) refl range
      where
        go : (six : Bool) → eqb rule.kind 6 ≡ six → cond six (range_two rule.first rule.second n) (in_range rule n weights) ≡ true
            → fails rule n weights w ≡ cond six (some_window false n rule.second 2 w) (fails rule n weights w)
        go false e h = refl
        go true e h =
            let r = within-true 2 rule.second n (both (eqb rule.first 2) _ h).1 in
            let fits : min rule.second n ≡ rule.second = omega arith in
            rw (eqb-true rule.kind 6 e) (near-window n rule.second w ∙ ap (λ r. some_window false n r 2 w) fits)

    pub counts-before : (j : ℕ) → count_of rule n weights j ≡ count_if (λ w. not (fails_before rule n weights w)) n j
    counts-before j = count_same _ _ n j (λ w l. ap not (fails-before w))

pub exact-before : (u : ℕ) (rule : Rule) (survival weights : List ℕ) → in_range_before rule (length survival) weights ≡ true
    → exact u rule survival weights ≡ exact_if (λ w. not (fails_before rule (length survival) weights w)) u (number_of survival) (length survival)
exact-before u rule survival weights range =
    exact_same _ _ u (number_of survival) (length survival) (λ w l. ap not (fails-before rule (length survival) weights range w))

-- ---- an input that was not refused is not

-- a condition that fails where it failed before, with what follows it
eased : (number : ℕ) (b c : Bool) (cs ds : List (ℕ × Bool)) → (b ≡ false → c ≡ false) → (b ≡ false → first_of cs ≡ 0 → first_of ds ≡ 0)
    → first_of ((suc number, b) ∷ cs) ≡ 0 → first_of ((suc number, c) ∷ ds) ≡ 0
eased number b c cs ds h rest e = let v = none_first number b cs e in first-after (suc number) c ds (h v.0) ∙ rest v.0 v.1

same : {b : Bool} → b ≡ false → b ≡ false
same e = e

in-range : (rule : Rule) (n : ℕ) (beside : List ℕ) → n ≤ most → not (in_range_before rule n beside) ≡ false → not (in_range rule n beside) ≡ false
in-range rule n beside small e = ap not (range-before rule n (total beside) beside small (not-false _ e))

-- 2, 5 and 6, and what else a call looks at
abbrev from2 : (n : ℕ) (five six : Bool) (others : List (ℕ × Bool)) → List (ℕ × Bool)
from2 n five six others = (2, bad_size n) ∷ (5, five) ∷ (6, not six) ∷ others

passes : (rule : Rule) (n : ℕ) (beside : List ℕ) (five : Bool) (others : List (ℕ × Bool))
    → first_of (from2 n five (in_range_before rule n beside) others) ≡ 0 → first_of (from2 n five (in_range rule n beside) others) ≡ 0
passes rule n beside five others =
    eased 1 _ _ _ _ same (λ two. eased 4 _ _ _ _ same (λ five.
    eased 5 _ _ _ _ (in-range rule n beside (within-true 1 n most (not-false _ two)).1) (λ six e. e)))

pub verdict-passes : (rule : Rule) (n : ℕ) (weights more : List ℕ) (w : ℕ)
    → first_of ((1, bad_kind rule) ∷ from2 n (bad_weights rule n weights weights) (in_range_before rule n (beside_of rule weights more)) ((9, high_one n w) ∷ [])) ≡ 0
    → verdict_refusal rule n weights more w ≡ 0
unfolding verdict_refusal
verdict-passes rule n weights more w = eased 0 _ _ _ _ same (λ one. passes rule n (beside_of rule weights more) _ _)

pub counts-pass : (rule : Rule) (n : ℕ) (weights table room : List ℕ)
    → first_of ((1, bad_kind rule) ∷ (15, not_counted rule)
    ∷ from2 n (bad_weights rule n weights weights) (in_range_before rule n weights) ((7, short_table table) ∷ (8, short_room n room) ∷ [])) ≡ 0
    → count_refusal rule n weights table room ≡ 0
unfolding count_refusal
counts-pass rule n weights table room = eased 0 _ _ _ _ same (λ one. eased 14 _ _ _ _ same (λ counted. passes rule n weights _ _))

pub figures-pass : (q : Asked) (table : List ℕ)
    → first_of ((11, bad_version q.version) ∷ (1, bad_kind q.rule) ∷ (2, bad_size (length_of q)) ∷ (3, bad_stretch q.a q.b (length_of q))
    ∷ (20, bad_boards q.version (board_count q)) ∷ (21, misplaced q.version (length_of q) (board_count q) q.boards (boards_of q))
    ∷ (4, above_unit (unit_in q) (part_of q) (switchboards_of q))
    ∷ (5, bad_weights q.rule (length_of q) q.weights (weights_of q)) ∷ (6, not (in_range_before q.rule (size_of q) (read_of q))) ∷ (7, short_table table) ∷ []) ≡ 0
    → figures_refusal q table ≡ 0
unfolding figures_refusal
figures-pass q table =
    eased 10 _ _ _ _ same (λ eleven. eased 0 _ _ _ _ same (λ one. eased 1 _ _ _ _ same (λ two. eased 2 _ _ _ _ same (λ three.
    eased 19 _ _ _ _ same (λ twenty. eased 20 _ _ _ _ same (λ placed. eased 3 _ _ _ _ same (λ four. eased 4 _ _ _ _ same (λ five.
    eased 5 _ _ _ _ (in-range q.rule (size_of q) (read_of q) (short two three)) (λ six e. e)))))))))
  where
    short : bad_size (length_of q) ≡ false → bad_stretch q.a q.b (length_of q) ≡ false → size_of q ≤ most
    short two three =
        let n = within-true 1 (length_of q) most (not-false _ two) in
        let s = in-stretch q.a q.b (length_of q) three in
        omega arith
