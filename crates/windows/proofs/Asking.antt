-- What the pairs ask, one further pair more a turn: the longest window, and whether some window holds too few. And what a rule in range says of its
-- windows. Assumes nothing.
use mathlib.Core.Path.{◌≡◌, refl}
use mathlib.Core.Bool.{true, false, not}
use mathlib.Core.List.{List, [], ◌∷◌, ◌++◌}
use Prim.Native.Nat.{ℕ, ◌%◌, ◌≤◌, ◌<◌, max}
use native.Mathlib.Omega.{arith}
use lib.Dec.{eqb, ltb}
use lib.ListN.{length, get_or}
use borrow.Author.Tests.{ltb-false, not-true}
use Rattle.rules.specs.declared.Pair.{Pair}
use Rattle.rules.specs.Memory.{longest, lacking_last, lacking_in}
use Rattle.rules.specs.Pairs.{pair_of, pairs_in, pairs_of, any_of, all_of, good_pair, in_range8, bad_more, most_more, longest_window}
use Rattle.rules.specs.Refusal.{range_pairs}
use Rattle.rules.proofs.Tests.{both, neither}
use Rattle.rules.proofs.Pairs.{Good, good-pair}
use Rattle.windows.specs.Asked.{Asked, Windows}

-- a chunk of two numbers is the first pair of what is left, and less than a chunk is none
pub front : {all : List ℕ} (x rest : List ℕ) → all ≡ x ++ rest → length x ≡ 2 → pairs_in all ≡ pair_of (get_or x 0 0) (get_or x 1 0) ∷ pairs_in rest
unfolding pairs_in
front [] rest is two = absurd (omega arith)
front (a ∷ []) rest is two = absurd (omega arith)
front (a ∷ b ∷ []) rest is two = rw is
front (a ∷ b ∷ c ∷ xs) rest is two = absurd (omega arith)

pub none : (all : List ℕ) → length all < 2 → pairs_in all ≡ []
unfolding pairs_in
none [] l = refl
none (a ∷ []) l = refl
none (a ∷ b ∷ xs) l = absurd (omega arith)

pub longest-next : {ps : List Pair} {p : Pair} {qs : List Pair} (r s : ℕ) → ps ≡ p ∷ qs → s ≡ max r p.r → max s (longest qs) ≡ max r (longest ps)
unfolding longest
longest-next r s is e = rw (is, e) (omega arith)

pub longest-last : {ps : List Pair} (r : ℕ) → ps ≡ [] → max r (longest ps) ≡ r
unfolding longest
longest-last r is = rw is (omega arith)

pub short-next : {ps : List Pair} {p : Pair} {qs : List Pair} → ps ≡ p ∷ qs → longest ps ≤ longest_window → (p.r ≤ longest_window) × (longest qs ≤ longest_window)
unfolding longest
short-next is h = let e = rw is at h in (omega arith, omega arith)

-- by the first pair, or by the further ones
module _ (k r : ℕ) (more : List ℕ) (m : ℕ) where
  pub lacks-first : lacking_last m (pair_of k r) ≡ true → lacking_in (pairs_of k r more) m ≡ true
  unfolding lacking_in any_of
  lacks-first e = rw e

  pub lacks-further : lacking_last m (pair_of k r) ≡ false → lacking_in (pairs_of k r more) m ≡ any_of (lacking_last m) (pairs_in more)
  unfolding lacking_in any_of
  lacks-further e = rw e

-- no window is longer than what all pairs in range keep to
longest-upto : (n b : ℕ) → ((p : Pair) → Good n p → p.r ≤ b) → (ps : List Pair) → in_range8 n ps ≡ true → longest ps ≤ b
unfolding longest in_range8 all_of
longest-upto n b h [] e = omega arith
longest-upto n b h (p ∷ ps) e =
    let g = both (good_pair n p) (all_of (good_pair n) ps) e in
    omega (arith, h p (good-pair n p g.0), longest-upto n b h ps g.1)

module _ {u first second : ℕ} {more survival t : List ℕ} (q : Asked u first second more survival t) where
  in-range : (bad_more more ≡ false) × (in_range8 (length survival) (pairs_of first second more) ≡ true)
  unfolding range_pairs
  in-range = let h = both (not (bad_more more)) (in_range8 (length survival) (pairs_of first second more)) q.range in (not-true _ h.0, h.1)

  pub pairs-good : in_range8 (length survival) (pairs_of first second more) ≡ true
  pairs-good = in-range.1

  pub longest-short : longest (pairs_of first second more) ≤ longest_window
  longest-short = longest-upto (length survival) longest_window (λ p g. g.short) _ pairs-good

  pub longest-fits : longest (pairs_of first second more) ≤ length survival
  longest-fits = longest-upto (length survival) (length survival) (λ p g. g.fits) _ pairs-good

  pub windows : Windows second more
  unfolding longest
  windows = record {
    few = ltb-false _ _ (neither (not (eqb (length more % 2) 0)) (ltb most_more (length more)) in-range.0).1;
    short = longest-short;
  }
