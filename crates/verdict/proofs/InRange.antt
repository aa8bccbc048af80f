-- Kind 8: pairs in range, one taken off; and what a rule that was accepted says of its pairs. Assumes nothing.
use mathlib.Core.Path.{◌≡◌}
use mathlib.Core.Bool.{true, not}
use mathlib.Core.List.{List, [], ◌∷◌}
use Prim.Native.Nat.{ℕ, ◌≤◌, ◌%◌}
use lib.Dec.{eqb, ltb}
use lib.ListN.{length}
use borrow.Author.Tests.{not-true, ltb-false}
use Rattle.rules.specs.declared.Pair.{Pair}
use Rattle.rules.specs.Pairs.{pairs_of, all_of, good_pair, in_range8, bad_more, most_more}
use Rattle.rules.specs.Refusal.{range_pairs}
use Rattle.rules.proofs.Tests.{both, neither}
use Rattle.rules.proofs.Pairs.{Good, good-pair}
use Rattle.verdict.specs.Pairs.{From}

module _ {n w a : ℕ} {p : Pair} {ps : List Pair} (f : From n w a (p ∷ ps)) where
  taken : (good_pair n p ≡ true) × (all_of (good_pair n) ps ≡ true)
  unfolding in_range8 all_of
  taken = both (good_pair n p) (all_of (good_pair n) ps) f.judgeable.range

  with-pairs : (qs : List Pair) → in_range8 n qs ≡ true → From n w a qs
  with-pairs qs range = record { judgeable = record { size = f.judgeable.size; word = f.judgeable.word; range = range }; start = f.start }

  pub head-good : Good n p
  head-good = good-pair n p taken.0

  pub alone : From n w a (p ∷ [])
  unfolding in_range8 all_of
  alone = with-pairs (p ∷ []) (rw taken.0)

  pub rest : From n w a ps
  unfolding in_range8
  rest = with-pairs ps taken.1

-- refusal 6 not given: few enough further pairs, all pairs in range
pub pairs-accepted : (first second n : ℕ) (more : List ℕ) → range_pairs first second n more ≡ true
    → (length more ≤ most_more) × (in_range8 n (pairs_of first second more) ≡ true)
unfolding range_pairs
pairs-accepted first second n more e =
    let v = both (not (bad_more more)) (in_range8 n (pairs_of first second more)) e in
    let few = neither (not (eqb (length more % 2) 0)) (ltb most_more (length more)) (not-true _ v.0) in
    (ltb-false _ _ few.1, v.1)
