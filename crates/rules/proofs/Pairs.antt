-- Laws of "some pair" and "every pair", by induction over the pairs, and of what one pair asks. Assumes nothing.
use mathlib.Core.Path.{◌≡◌, refl}
use mathlib.Core.Bool.{Bool, true, false, ◌||◌, ◌&&◌, false≢true}
use mathlib.Core.List.{List, [], ◌∷◌}
use Prim.Native.Nat.{ℕ, zero, suc, ◌-◌, ◌≤◌}
use native.Mathlib.Omega.{arith}
use native.Mathlib.Nat.{le-max_left, le-max_right, le_trans}
use lib.Dec.{ltb}
use borrow.Author.Tests.{leb-true, ltb-true, lt-ltb}
use Rattle.rules.specs.declared.Pair.{Pair}
use Rattle.rules.specs.Below.{some}
use Rattle.rules.specs.Pairs.{too_few, any_of, all_of, longest_window, good_pair}
use Rattle.rules.specs.Memory.{longest}
use Rattle.rules.proofs.Tests.{both}

ltb-less : (x y k : ℕ) → y ≤ x → ltb x k ≡ true → ltb y k ≡ true
ltb-less x y k l e = lt-ltb y k (omega (arith, ltb-true x k e))

-- with more failed there are no more working
pub too-few-more : (p : Pair) {a b : ℕ} → a ≤ b → too_few p a ≡ true → too_few p b ≡ true
too-few-more p {a} {b} l e = ltb-less (p.r - a) (p.r - b) _ (omega arith) e

or_swap : (a b c d : Bool) → (a || b) || (c || d) ≡ (a || c) || (b || d)
or_swap true b c d = refl
or_swap false true true d = refl
or_swap false true false d = refl
or_swap false false c d = refl

some-false : (n : ℕ) → some (λ a. false) n ≡ false
unfolding some
some-false zero = refl
some-false (suc n) = rw (some-false n)

some_or : (p q : ℕ → Bool) (n : ℕ) → some (λ a. p a || q a) n ≡ some p n || some q n
unfolding some
some_or p q zero = refl
some_or p q (suc n) = rw (some_or p q n) (or_swap (some p n) (some q n) (p n) (q n))

-- some place has some pair: some pair has some place
pub exchange : (q : ℕ → Pair → Bool) (n : ℕ) (ps : List Pair) → some (λ a. any_of (q a) ps) n ≡ any_of (λ p. some (λ a. q a p) n) ps
unfolding any_of
exchange q n [] = some-false n
exchange q n (p ∷ ps) = rw (some_or (λ a. q a p) (λ a. any_of (q a) ps) n, exchange q n ps)

-- two tests that agree on every pair that a third lets pass
pub any_same : (good q s : Pair → Bool) → ((p : Pair) → good p ≡ true → q p ≡ s p) → (ps : List Pair) → all_of good ps ≡ true → any_of q ps ≡ any_of s ps
unfolding any_of all_of
any_same good q s h [] e = refl
any_same good q s h (p ∷ ps) e =
    let g = both (good p) (all_of good ps) e in
    rw (h p g.0, any_same good q s h ps g.1)

-- the same for windows that are no longer than a bound
pub any-upto : (q s : Pair → Bool) (b : ℕ) → ((p : Pair) → p.r ≤ b → q p ≡ s p) → (ps : List Pair) → longest ps ≤ b → any_of q ps ≡ any_of s ps
unfolding any_of longest
any-upto q s b h [] l = refl
any-upto q s b h (p ∷ ps) l =
    rw (h p (le_trans (le-max_left p.r (longest ps)) l), any-upto q s b h ps (le_trans (le-max_right p.r (longest ps)) l))

or-more : (a b c d : Bool) → (a ≡ true → b ≡ true) → (c ≡ true → d ≡ true) → a || c ≡ true → b || d ≡ true
or-more true true c d h k e = refl
or-more true false c d h k e = absurd (false≢true (h refl))
or-more false true c d h k e = refl
or-more false false c d h k e = k e

-- and a test that lets more pass
pub any-more : (q s : Pair → Bool) → ((p : Pair) → q p ≡ true → s p ≡ true) → (ps : List Pair) → any_of q ps ≡ true → any_of s ps ≡ true
unfolding any_of
any-more q s h [] e = e
any-more q s h (p ∷ ps) e = or-more (q p) (s p) (any_of q ps) (any_of s ps) (h p) (any-more q s h ps) e

-- what a pair in range is
pub record Good (n : ℕ) (p : Pair) : Type 0 where
  pub some : 1 ≤ p.k
  pub order : p.k ≤ p.r
  pub short : p.r ≤ longest_window
  pub fits : p.r ≤ n

pub good-pair : (n : ℕ) (p : Pair) → good_pair n p ≡ true → Good n p
good-pair n p e =
    let a = both _ _ e in
    let k = both _ _ a.0 in
    let r = both _ _ a.1 in
    record { some = leb-true _ _ k.0; order = leb-true _ _ k.1; short = leb-true _ _ r.0; fits = leb-true _ _ r.1 }
