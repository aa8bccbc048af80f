-- Request 09: for each row but row 3 an order on its memories, "worse than", which the row's moves respect, and in which a component's failing is never
-- better than its working. By the cases of a move; nothing is asked of the rule's numbers. Assumes nothing.
use mathlib.Core.Path.{◌≡◌, refl, sym, ◌∙◌}
use mathlib.Core.Bool.{Bool, true, false, cond, le, false≢true, true≢false}
use mathlib.Core.List.{List}
use Prim.Native.Nat.{ℕ, zero, suc, min, ◌+◌, ◌-◌, ◌*◌, ◌%◌, ◌^◌, ◌≤◌, ◌<◌, zero-le}
use native.Mathlib.Omega.{arith}
use native.Mathlib.Nat.{add-zero}
use lib.Dec.{ltb}
use borrow.Author.Tests.{ltb-true, lt-ltb, leb-true, le-leb}
use Rattle.rules.specs.declared.Pair.{Pair}
use Rattle.rules.specs.Memory.{Memory, live, dead, Row, moved, ended, machine_of, below, row1, row4, Ring, lead, pair, working5, failing5, end5, row5, failing6, row6, working7, failing7, end7, row7, kept, lacking_in, remembered, row8}
use Rattle.rules.proofs.Tests.{by-test}
use Rattle.rules.proofs.Monotone.{Ordered}
use Rattle.rules.proofs.Fewer.{NoMore, cut, grow, lacking-more}

-- a dead memory is worse than any, and no living one than a dead one; living ones are as W says
unfoldable pub Worse : {A : Type 0} → (A → A → Type 0) → Memory A → Memory A → Type 0
Worse W dead m = Unit
Worse W (live a) dead = ⊥
Worse W (live a) (live b) = W a b

pub record Respects {A : Type 0} (R : Row A) (W : A → A → Type 0) : Type 0 where
  pub works : (i : ℕ) (a b : A) → W a b → Worse W (R.working i a) (R.working i b)
  pub fails : (i : ℕ) (a b : A) → W a b → Worse W (R.failing i a) (R.failing i b)
  pub lower : (i : ℕ) (a : A) → Worse W (R.failing i a) (R.working i a)
  pub last : (a b : A) → W a b → le (R.end a) (R.end b)

pub row-ordered : {A : Type 0} (R : Row A) (W : A → A → Type 0) → Respects R W → Ordered (machine_of R) (Worse W)
unfolding moved ended Worse
row-ordered {A} R W r = record {
  ends_up = λ {m} {m'}. at-end m m';
  worked_up = λ i {m} {m'}. on-working i m m';
  failed_up = λ i {m} {m'}. on-failed i m m';
  lower = lower;
}
  where
    at-end : (m m' : Memory A) → Worse W m m' → le (ended R.end m) (ended R.end m')
    at-end dead m' h = λ e. absurd (false≢true e)
    at-end (live a) dead h = absurd h
    at-end (live a) (live b) h = r.last a b h

    on-working : (i : ℕ) (m m' : Memory A) → Worse W m m' → Worse W (moved (R.working i) m) (moved (R.working i) m')
    on-working i dead m' h = tt
    on-working i (live a) dead h = absurd h
    on-working i (live a) (live b) h = r.works i a b h

    on-failed : (i : ℕ) (m m' : Memory A) → Worse W m m' → Worse W (moved (R.failing i) m) (moved (R.failing i) m')
    on-failed i dead m' h = tt
    on-failed i (live a) dead h = absurd h
    on-failed i (live a) (live b) h = r.fails i a b h

    lower : (i : ℕ) (m : Memory A) → Worse W (moved (R.failing i) m) (moved (R.working i) m)
    lower i (live a) = r.lower i a
    lower i dead = tt

-- a memory that is dead from k on, beside one that lives, and beside one that is no nearer to k
module _ {A : Type 0} (W : A → A → Type 0) (k x : ℕ) (a b : A) (h : W a b) where
  below-live : Worse W (below x k a) (live b)
  unfolding Worse
  below-live = by-test (λ m. Worse W m (live b)) (ltb x k) _ _ (λ e. h) (λ e. tt)

  below-below : (y : ℕ) → y ≤ x → Worse W (below x k a) (below y k b)
  unfolding Worse
  below-below y l =
      by-test (λ m. Worse W m (below y k b)) (ltb x k) _ _
      (λ e. let s : y < k = omega (arith, ltb-true x k e) in rw (lt-ltb y k s) h) (λ e. tt)

-- rows 1, 2, 4 and 6: a larger sum, a longer run, more that is owed
abbrev pub More : ℕ → ℕ → Type 0
More c d = d ≤ c

pub row1-respects : (k : ℕ) (weight : ℕ → ℕ) → Respects (row1 k weight) More
unfolding Worse
row1-respects k weight = record {
  works = λ i c d h. h;
  fails = λ i c d h. below-below More k (c + weight i) _ (d + weight i) (omega arith) _ (omega arith);
  lower = λ i c. below-live More k (c + weight i) _ c (omega arith);
  last = λ c d h e. e;
}

pub row4-respects : (k : ℕ) → Respects (row4 k) More
unfolding Worse
row4-respects k = record {
  works = λ i s t h. zero-le;
  fails = λ i s t h. below-below More k (suc s) _ (suc t) (omega arith) _ (omega arith);
  lower = λ i s. below-live More k (suc s) _ 0 zero-le;
  last = λ s t h e. e;
}

pub row6-respects : (r : ℕ) → Respects (row6 r) More
unfolding Worse failing6
row6-respects r = record { works = λ i g h l. omega arith; fails = λ i. fails; lower = λ i. lower; last = λ g h l e. e }
  where
    fails : (g h : ℕ) → h ≤ g → Worse More (failing6 r g) (failing6 r h)
    fails zero zero l = omega arith
    fails zero (suc h) l = absurd (omega arith)
    fails (suc g) h l = tt

    lower : (g : ℕ) → Worse More (failing6 r g) (live (g - 1))
    lower zero = omega arith
    lower (suc g) = tt

-- row 5: a longer lead and a longer run; or a lead that is still open, as long as the other's lead and run together
unfoldable pub Longer : Ring → Ring → Type 0
Longer (pair t s) (pair t' s') = (t' ≤ t) × (s' ≤ s)
Longer (lead t) (pair t' s') = t' + s' ≤ t
Longer m (lead t') = ⊥

pub row5-respects : (k : ℕ) → Respects (row5 k) Longer
unfolding Worse Longer working5 failing5 end5
row5-respects k = record { works = λ i. works; fails = λ i. fails; lower = λ i. lower; last = last }
  where
    works : (m m' : Ring) → Longer m m' → Worse Longer (working5 m) (working5 m')
    works (pair t s) (pair t' s') h = (h.0, zero-le)
    works (lead t) (pair t' s') h = (omega arith, zero-le)
    works m (lead t') h = absurd h

    fails : (m m' : Ring) → Longer m m' → Worse Longer (failing5 k m) (failing5 k m')
    fails (pair t s) (pair t' s') h = below-below Longer k (suc s) _ _ (h.0, omega arith) _ (omega arith)
    fails (lead t) (pair t' s') h = below-below Longer k (suc t) _ _ (omega arith) _ (omega arith)
    fails m (lead t') h = absurd h

    lower : (m : Ring) → Worse Longer (failing5 k m) (working5 m)
    lower (pair t s) = below-live Longer k (suc s) _ _ (omega arith, zero-le)
    lower (lead t) = below-live Longer k (suc t) _ _ (omega arith)

    last : (m m' : Ring) → Longer m m' → le (end5 k m) (end5 k m')
    last (pair t s) (pair t' s') h = λ e. lt-ltb _ k (omega (arith, ltb-true (t + s) k e))
    last (lead t) (pair t' s') h = λ e. lt-ltb _ k (omega (arith, ltb-true t k e))
    last m (lead t') h = absurd h

-- row 7: fewer clean ones, as far as they count, and more owed; or the other is clean still, and has no fewer once the debt is paid
unfoldable pub Owing : (r : ℕ) → Ring → Ring → Type 0
Owing r (pair x g) (pair x' g') = (min x (r - 1) ≤ x') × (g' ≤ g) × (g' ≤ r - 1)
Owing r (pair x g) (lead x') = min x (r - 1) ≤ x' + g
Owing r (lead x) m = ⊥

pub row7-respects : (r : ℕ) → Respects (row7 r) (Owing r)
unfolding Worse Owing working7 failing7 end7
row7-respects r = record { works = λ i. works; fails = λ i. fails; lower = λ i. lower; last = last }
  where
    works : (m m' : Ring) → Owing r m m' → Worse (Owing r) (working7 r m) (working7 r m')
    works (pair x g) (pair x' g') h = (h.0, omega arith, omega arith)
    works (pair x g) (lead x') h = omega arith
    works (lead x) m' h = absurd h

    fails : (m m' : Ring) → Owing r m m' → Worse (Owing r) (failing7 r m) (failing7 r m')
    fails (pair x zero) (pair x' zero) h = (h.0, omega arith, omega arith)
    fails (pair x zero) (pair x' (suc g')) h = absurd (omega arith)
    fails (pair x zero) (lead x') h = (omega arith, omega arith, omega arith)
    fails (pair x (suc g)) m' h = tt
    fails (lead x) m' h = absurd h

    lower : (m : Ring) → Worse (Owing r) (failing7 r m) (working7 r m)
    lower (lead x) = omega arith
    lower (pair x zero) = (omega arith, omega arith, omega arith)
    lower (pair x (suc g)) = tt

    last : (m m' : Ring) → Owing r m m' → le (end7 m) (end7 m')
    last (pair x g) (pair x' g') h = λ e. le-leb g' x' (omega (arith, leb-true g x e))
    last (pair x g) (lead x') h = λ e. refl
    last (lead x) m' h = absurd h

-- row 8: the pattern with no more failed, bit by bit, is not worse; one that lacks is dead, and so is every worse one
abbrev pub MoreDown : ℕ → ℕ → Type 0
MoreDown x y = NoMore y x

remembered-worse : (ps : List Pair) (x y : ℕ) → MoreDown x y → Worse MoreDown (remembered ps x) (remembered ps y)
unfolding Worse remembered
remembered-worse ps x y h = go (lacking_in ps x) refl (lacking_in ps y) refl
  where
    go : (b : Bool) → lacking_in ps x ≡ b → (c : Bool) → lacking_in ps y ≡ c → Worse MoreDown (cond b dead (live (x % 2 ^ kept ps))) (cond c dead (live (y % 2 ^ kept ps)))
    go true e c f = tt
    go false e true f = absurd (true≢false (sym (lacking-more h ps f) ∙ e))
    go false e false f = cut h (kept ps)

pub row8-respects : (ps : List Pair) → Respects (row8 ps) MoreDown
row8-respects ps = record {
  works = λ i x y h. remembered-worse ps (2 * x) (2 * y) (simp add-zero at (grow h 0 0 (omega arith) (omega arith)));
  fails = λ i x y h. remembered-worse ps (2 * x + 1) (2 * y + 1) (grow h 1 1 (omega arith) (omega arith));
  lower = λ i x. remembered-worse ps (2 * x + 1) (2 * x) (simp add-zero at (grow {y = x} {x = x} (record { bit = λ d e. e }) 0 1 (omega arith) (omega arith)));
  last = λ x y h e. e;
}
