-- The refusal of the figures, as the code works it out: 11, then 1 to 3, then 20 and 21, then 4, then 5 and 6 over the weights that are rated and the further
-- pairs, then 7. Assumes nothing.
use Prim.Native.Nat.{ℕ, suc, ◌-◌, ◌≤◌}
use mathlib.Core.Path.{◌≡◌, refl, sym, ap, ◌∙◌}
use mathlib.Core.Bool.{Bool, true, false, cond, not}
use mathlib.Core.Logic.{◌⊎◌, inl, inr, ⊎_elim}
use mathlib.Core.List.{List, [], ◌∷◌}
use native.Mathlib.Omega.{arith}
use lib.Dec.{eqb}
use lib.ListN.{length, take, drop, length-take, length-drop}
use borrow.Author.Tests.{eqb-true, eqb-false, eq-eqb, ne_eqb}
use Rattle.rules.specs.declared.Rule.{Rule}
use Rattle.rules.specs.declared.Question.{Question}
use Rattle.rules.specs.Below.{total}
use Rattle.rules.specs.State.{beside_of}
use Rattle.rules.specs.Stretch.{stretch}
use Rattle.rules.specs.Asked.{Asked, question_in, asked_of, unit_in, length_of, part_of, boards_of, switchboards_of, board_count}
use Rattle.rules.specs.Refusal.{after, first_of, bad_version, bad_kind, bad_size, bad_stretch, bad_boards, misplaced, above_unit, weights_out, bad_weights, ranged, in_range, short_table, figures_refusal}
use Rattle.rules.proofs.Tests.{by-test}
use Rattle.rules.proofs.Accepted.{none_first, first-same, first-after, first_more, first_rest, in-stretch, weights-accepted}
use Rattle.rules.proofs.Unread.{unread-total, beside-range}
use Rattle.refusals.specs.Shared.{rated_refusal}
use Rattle.board_lists.specs.Refused.{boards_refusal}
use Rattle.board_lists.proofs.Laws.{boards-as-read}
use Rattle.asked.specs.Parts.{rated_of, place_refusal, lists_refusal, part_refusal}

-- the part as the code takes it
pub part-is : (a b n : ℕ) (xs : List ℕ) → bad_stretch a b n ≡ false → take (b - (a - 1)) (drop (a - 1) xs) ≡ stretch a b xs
unfolding stretch
part-is a b n xs e =
    let h = in-stretch a b n e in
    let d : b - (a - 1) ≡ suc b - a = omega arith in
    rw d

module _ (rule : Rule) (n : ℕ) (ws : List ℕ) (a b : ℕ) where
  -- either they are the stretch's weights, or kind 2 has too few or too many, or the kind reads none
  rated-by : ((rated_of rule n ws a b ≡ stretch a b ws) × (length ws ≡ n)) ⊎ (((rule.kind ≡ 2) × (eqb (length ws) n ≡ false)) ⊎ (rule.kind ≡ 2 → ⊥))
  unfolding rated_of
  rated-by = go (eqb rule.kind 2) refl (eqb (length ws) n) refl
    where
      go : (k : Bool) → eqb rule.kind 2 ≡ k → (t : Bool) → eqb (length ws) n ≡ t
          → ((cond (eqb rule.kind 2) (cond (eqb (length ws) n) (stretch a b ws) []) [] ≡ stretch a b ws) × (length ws ≡ n)) ⊎ (((rule.kind ≡ 2) × (eqb (length ws) n ≡ false)) ⊎ (rule.kind ≡ 2 → ⊥))
      go true e true d = inl (rw (e, d), eqb-true _ _ d)
      go true e false d = inr (inl (eqb-true _ _ e, d))
      go false e t d = inr (inr (eqb-false _ _ e))

  five-same : weights_out rule n (length ws) (total (rated_of rule n ws a b)) ≡ bad_weights rule n ws (stretch a b ws)
  unfolding weights_out
  five-same =
      ⊎_elim (λ s. rw s.0) (λ o. ⊎_elim (λ k. rw (eq-eqb rule.kind 2 k.0, k.1)) (λ k. rw (ne_eqb rule.kind 2 k)) o) rated-by

  -- where kind 2 has as many as there are components, they are the stretch's, or the kind reads none
  pub rated-same : (rule.kind ≡ 2 → length ws ≡ n) → (rated_of rule n ws a b ≡ stretch a b ws) ⊎ (rule.kind ≡ 2 → ⊥)
  rated-same listed = ⊎_elim (λ s. inl s.0) (λ o. ⊎_elim (λ k. absurd (eqb-false _ _ k.1 (listed k.0))) inr o) rated-by

  six-same : (m : ℕ) (more : List ℕ) → bad_weights rule n ws (stretch a b ws) ≡ false
      → ranged rule m (total (rated_of rule n ws a b)) more ≡ in_range rule m (beside_of rule (stretch a b ws) more)
  six-same m more e =
      ⊎_elim (λ s. rw s) (λ k. unread-total rule m _ _ more k) (rated-same (λ two. (weights-accepted rule n (length ws) _ e two).0))
      ∙ sym (beside-range rule m (stretch a b ws) more)

  pub own_is : (m : ℕ) (more : List ℕ) → rated_refusal rule n (length ws) m (total (rated_of rule n ws a b)) more
      ≡ first_of ((5, bad_weights rule n ws (stretch a b ws)) ∷ (6, not (in_range rule m (beside_of rule (stretch a b ws) more))) ∷ [])
  unfolding rated_refusal
  own_is m more = first-same 5 _ _ _ _ five-same (λ e. first-same 6 _ _ _ _ (ap not (six-same m more (sym five-same ∙ e))) (λ r. refl))

  pub rated-short : length (rated_of rule n ws a b) ≤ length ws
  unfolding rated_of stretch
  rated-short =
      by-test (λ xs. length xs ≤ length ws) (eqb rule.kind 2) (cond (eqb (length ws) n) (stretch a b ws) []) []
      (λ _. by-test (λ xs. length xs ≤ length ws) (eqb (length ws) n) (stretch a b ws) [] (λ _. simp (length-take, length-drop) (omega arith)) (λ _. omega arith))
      (λ _. omega arith)

-- ---- 1, 2 and 3, and 5 and 6, with the conditions that come after them

pub place-first : (rule : Rule) (a b n : ℕ) (rest : List (ℕ × Bool))
    → first_of ((1, bad_kind rule) ∷ (2, bad_size n) ∷ (3, bad_stretch a b n) ∷ rest) ≡ after (place_refusal rule a b n) (first_of rest)
unfolding place_refusal
place-first rule a b n rest = first_more 0 _ _ _ _ (first_more 1 _ _ _ _ (first_more 2 _ [] rest _ (first_rest rest)))

pub part-first : (rule : Rule) (a b n : ℕ) (weights more : List ℕ) (rest : List (ℕ × Bool))
    → first_of ((5, bad_weights rule n weights (stretch a b weights)) ∷ (6, not (in_range rule (suc b - a) (beside_of rule (stretch a b weights) more))) ∷ rest)
    ≡ after (part_refusal rule a b n weights more) (first_of rest)
unfolding part_refusal
part-first rule a b n weights more rest = first_more 4 _ _ _ _ (first_more 5 _ [] rest _ (first_rest rest))

pub record Placed (rule : Rule) (a b n : ℕ) : Type 0 where
  pub kind : bad_kind rule ≡ false
  pub size : bad_size n ≡ false
  pub inside : bad_stretch a b n ≡ false
  pub fits : (1 ≤ a) × (a ≤ b) × (b ≤ n)

pub placed : (rule : Rule) (a b n : ℕ) → place_refusal rule a b n ≡ 0 → Placed rule a b n
unfolding place_refusal
placed rule a b n e =
    let one = none_first 0 _ _ e in
    let two = none_first 1 _ _ one.1 in
    let three = none_first 2 _ _ two.1 in
    record { kind = one.0; size = two.0; inside = three.0; fits = in-stretch a b n three.0 }

-- ---- 20, 21 and 4, with the conditions that come after them

pub lists-first : (q : Asked) (rest : List (ℕ × Bool))
    → first_of
    ((20, bad_boards q.version (board_count q))
    ∷ (21, misplaced q.version (length_of q) (board_count q) q.boards (boards_of q))
    ∷ (4, above_unit (unit_in q) (part_of q) (switchboards_of q))
    ∷ rest)
    ≡ after (lists_refusal (question_in q) q.survival q.boards q.switchboards) (first_of rest)
unfolding lists_refusal
lists-first q rest = first_more 19 _ _ _ _ (first_more 20 _ _ _ _ (first_more 3 _ [] rest _ (first_rest rest)))

-- 20 and 21 over the boards' lists as they are lent, then 4
pub boards-first : (question : Question) (survival boards switchboards : List ℕ) → bad_stretch question.a question.b (length survival) ≡ false
    → let q = asked_of question survival [] [] boards switchboards in
    lists_refusal question survival boards switchboards
    ≡ after (boards_refusal q.version (length_of q) (length switchboards) boards (take (q.b - (q.a - 1)) (drop (q.a - 1) boards)))
    (first_of ((4, above_unit (unit_in q) (part_of q) (switchboards_of q)) ∷ []))
unfolding lists_refusal boards_refusal
boards-first question survival boards switchboards inside =
    let q = asked_of question survival [] [] boards switchboards in
    let four : List (ℕ × Bool) = (4, above_unit (unit_in q) (part_of q) (switchboards_of q)) ∷ [] in
    first_more 19 _ _ _ _ (first_more 20 _ [] four _ (first_rest four))
    ∙ ap (λ r. after r (first_of four))
    (sym (ap (boards_refusal q.version (length_of q) (length switchboards) boards) (part-is q.a q.b _ boards inside)
    ∙ boards-as-read q.version (length_of q) boards (stretch q.a q.b boards) switchboards))

-- ---- the refusal of what is asked, past 11: part after part

pub past-version : (q : Asked) (table : List ℕ) → bad_version q.version ≡ false
    → figures_refusal q table
    ≡ after (place_refusal q.rule q.a q.b (length_of q))
    (after (lists_refusal (question_in q) q.survival q.boards q.switchboards)
    (after (part_refusal q.rule q.a q.b (length_of q) q.weights q.more) (first_of ((7, short_table table) ∷ []))))
unfolding figures_refusal
past-version q table eleven =
    first-after 11 _ _ eleven ∙ place-first q.rule q.a q.b (length_of q) _
    ∙ ap (after _) (lists-first q _ ∙ ap (after _) (part-first q.rule q.a q.b (length_of q) q.weights q.more _))
