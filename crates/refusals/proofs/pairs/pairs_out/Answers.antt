-- `refusals::pairs::pairs_out` meets its contract: the tests in the code's order, the number of pairs, the first pair, the further ones. Assumes nothing.
use mathlib.Core.Path.{◌≡◌, sym, ◌∙◌}
use mathlib.Core.Bool.{Bool, true, false, not}
use mathlib.Core.List.{List}
use Prim.Native.Nat.{ℕ, ◌%◌, ◌≤◌, ◌<◌}
use lib.ListN.{length}
use borrow.Author.Tests.{eq-eqb, ne_eqb, lt-ltb, le-ltb, not-true, not-false}
use Rattle.rules.specs.Pairs.{pair_of, pairs_in, all_of, good_pair, in_range8, most_more}
use Rattle.rules.specs.Refusal.{range_pairs}
use Rattle.refusals.proofs.pairs.pairs_out.Goals as goal

module _ (first second n : ℕ) (more : List ℕ) where
  half : (length more % 2 ≡ 0 → ⊥) → true ≡ not (range_pairs first second n more)
  unfolding range_pairs
  half h = rw (ne_eqb (length more % 2) 0 h)

  module _ (even : length more % 2 ≡ 0) where
    many : most_more < length more → true ≡ not (range_pairs first second n more)
    unfolding range_pairs
    many l = rw (eq-eqb (length more % 2) 0 even, lt-ltb most_more (length more) l)

    first-bad : length more ≤ most_more → good_pair n (pair_of first second) ≡ false → true ≡ not (range_pairs first second n more)
    unfolding range_pairs in_range8 all_of
    first-bad l e = rw (eq-eqb (length more % 2) 0 even, le-ltb most_more (length more) l, e)

    further : length more ≤ most_more → good_pair n (pair_of first second) ≡ true → {r : Bool} → r ≡ not (in_range8 n (pairs_in more)) → r ≡ not (range_pairs first second n more)
    unfolding range_pairs in_range8 all_of
    further l e h = rw (eq-eqb (length more % 2) 0 even, le-ltb most_more (length more) l, e) h

pub returns-then-more-ne0 : goal.returns-then-more-ne0
returns-then-more-ne0 c = half _ _ _ _ c.if-more-ne0.true

pub returns-then-more-gt-MORE : goal.returns-then-more-gt-MORE
returns-then-more-gt-MORE c = many _ _ _ _ c.if-more-ne0.false c.if-more-gt-MORE.true

pub returns-then-pair_out : goal.returns-then-pair_out
returns-then-pair_out c =
    first-bad _ _ _ _ c.if-more-ne0.false c.if-more-gt-MORE.false (not-true _ (sym c.pair_out.ensures ∙ c.if-pair_out.true))

pub returns : goal.returns
returns c =
    further _ _ _ _ c.if-more-ne0.false c.if-more-gt-MORE.false
    (not-false _ (sym c.pair_out.ensures ∙ c.if-pair_out.false)) c.more_out.ensures
