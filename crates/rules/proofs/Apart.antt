-- Kinds 6 and 7: reading through the memory is the verdict, "two failed components' numbers differ by less than r" on the line and "some r in a row
-- hold two or more failed ones" on the ring. Both say that any two failed ones are r places apart, on the ring also around its end; the memory
-- (x, g) with i components left says that of the places below i, with g places at the top that must work and x clean ones before the first
-- failure. The line is the ring past its lead, at (r - 1, 0). On the line windows say the same, no longer than it is. Assumes nothing.
use mathlib.Core.Path.{◌≡◌, refl, sym, ◌∙◌}
use mathlib.Core.Logic.Iff
use mathlib.Core.Logic.{◌↔◌}
use mathlib.Core.Bool.{Bool, true, false, true≢false, false≢true, not, ◌&&◌}
use Prim.Native.Nat.{ℕ, zero, suc, min, ◌+◌, ◌-◌, ◌%◌, ◌≤◌, ◌<◌}
use native.Mathlib.Omega.{arith}
use native.Mathlib.Decide.{dec_lt}
use lib.Dec.{ltb}
use borrow.Author.Tests.{leb-true, le-leb, ltb-true, lt-ltb}
use Rattle.rules.specs.Below.{held, some}
use Rattle.rules.specs.State.{down, window, starts}
use Rattle.rules.specs.Verdict.{some_window, two_near}
use Rattle.rules.specs.Memory.{run, Memory, live, dead, moved, ended, machine_of, Ring, lead, pair, failing6, working7, failing7, end7, row6, row7}
use Rattle.rules.proofs.Tests.{both}
use Rattle.rules.proofs.Windows.{opposite, last, some-none, some-found, held-fewer, no-window, not-lt, at, turned}
use Rattle.rules.proofs.Reading.{step, gone}
use Rattle.rules.proofs.Simulation.{Alike, Same, alike_same}

abbrev pub Apart : (f : ℕ → Bool) (r i : ℕ) → Type 0
Apart f r i = (q : ℕ) → q < i → f q ≡ true → (p : ℕ) → p < q → f p ≡ true → p + r ≤ q

record Past (f : ℕ → Bool) (r i x g : ℕ) : Type 0 where
  apart : Apart f r i
  low : (p : ℕ) → p < i → f p ≡ true → p + g < i
  high : (p : ℕ) → p < i → f p ≡ true → r ≤ p + x + 1
  wrap : g ≤ x + i

record Clean (f : ℕ → Bool) (r i x : ℕ) : Type 0 where
  apart : Apart f r i
  around : (q : ℕ) → q < i → f q ≡ true → (p : ℕ) → p ≤ q → f p ≡ true → q + r ≤ p + x + i

module _ (f : ℕ → Bool) (r : ℕ) (pos : 0 < r) where
  clash : {A : Type 0} (i : ℕ) → f i ≡ false → f i ≡ true → A
  clash i b a = absurd (false≢true (sym b ∙ a))

  past-worked : (i x g : ℕ) → f i ≡ false → Past f r i x (g - 1) ↔ Past f r (suc i) x g
  past-worked i x g e = (
    λ h. record {
      apart = last _ i h.apart (clash i e);
      low = last _ i (λ p l a. omega (arith, h.low p l a)) (clash i e);
      high = last _ i h.high (clash i e);
      wrap = omega (arith, h.wrap);
    },
    λ h. record {
      apart = λ q l. h.apart q (omega arith);
      low = λ p l a. omega (arith, h.low p (omega arith) a);
      high = λ p l. h.high p (omega arith);
      wrap = omega (arith, h.wrap);
    },
  )

  past-failed : (i x : ℕ) → f i ≡ true → Past f r i x (r - 1) ↔ Past f r (suc i) x 0
  past-failed i x e = (
    λ h. record {
      apart = last _ i h.apart (λ _ p l a. omega (arith, h.low p l a));
      low = λ p l a. omega arith;
      high = last _ i h.high (λ _. omega (arith, h.wrap));
      wrap = omega arith;
    },
    λ h. record {
      apart = λ q l. h.apart q (omega arith);
      low = λ p l a. omega (arith, h.apart i (omega arith) e p l a);
      high = λ p l. h.high p (omega arith);
      wrap = omega (arith, h.high i (omega arith) e);
    },
  )

  clean-worked : (i x : ℕ) → f i ≡ false → Clean f r i (min (suc x) (r - 1)) ↔ Clean f r (suc i) x
  clean-worked i x e = (
    λ h. record {
      apart = last _ i h.apart (clash i e);
      around = last _ i (λ q l a p m b. omega (arith, h.around q l a p m b)) (clash i e);
    },
    λ h. record {
      apart = λ q l. h.apart q (omega arith);
      around = λ q l a p m b. omega (arith, h.around q (omega arith) a p m b);
    },
  )

  clean-failed : (i x : ℕ) → f i ≡ true → Past f r (suc i) x 0 ↔ Clean f r (suc i) x
  clean-failed i x e = (
    λ h. record {
      apart = h.apart;
      around =
          last _ i (λ q l a p m b. omega (arith, h.apart i (omega arith) e q l a)) (λ _ p m b. omega (arith, h.high p (omega arith) b));
    },
    λ h. record {
      apart = h.apart;
      low = λ p l a. omega arith;
      high = λ p l a. omega (arith, h.around i (omega arith) e p (omega arith) a);
      wrap = omega arith;
    },
  )

module _ (w r : ℕ) (pos : 0 < r) where
  abbrev f : ℕ → Bool
  f p = down p w

  past-ok : (i x g : ℕ) → (run (machine_of (row7 r)) i (live (pair x g)) w ≡ true) ↔ Past f r i x g
  unfolding run moved ended working7 failing7 end7
  past-ok zero x g = (
    λ e. record {
      apart = λ q l. absurd (omega arith);
      low = λ q l. absurd (omega arith);
      high = λ q l. absurd (omega arith);
      wrap = omega (arith, leb-true);
    },
    λ h. le-leb g x (omega (arith, h.wrap)),
  )
  past-ok (suc i) x zero = step (row7 r) w i (live (pair x 0)) _
      (λ e. Iff.trans (past-ok i x (r - 1)) (past-failed f r pos i x e))
      (λ e. Iff.trans (past-ok i x (0 - 1)) (past-worked f r pos i x 0 e))
  past-ok (suc i) x (suc g) = step (row7 r) w i (live (pair x (suc g))) _
      (λ e. gone (row7 r) w i _ (λ h. omega (arith, h.low i (omega arith) e)))
      (λ e. Iff.trans (past-ok i x (suc g - 1)) (past-worked f r pos i x (suc g) e))

  clean-ok : (i x : ℕ) → (run (machine_of (row7 r)) i (live (lead x)) w ≡ true) ↔ Clean f r i x
  unfolding run moved ended working7 failing7 end7
  clean-ok zero x = (λ e. record { apart = λ q l. absurd (omega arith); around = λ q l. absurd (omega arith) }, λ h. refl)
  clean-ok (suc i) x = step (row7 r) w i (live (lead x)) _
      (λ e. Iff.trans (past-ok i x (r - 1)) (Iff.trans (past-failed f r pos i x e) (clean-failed f r pos i x e)))
      (λ e. Iff.trans (clean-ok i (min (suc x) (r - 1))) (clean-worked f r pos i x e))

-- no window holds two
abbrev Clear : (f : ℕ → Bool) (r n s : ℕ) → Type 0
Clear f r n s = (a : ℕ) → a < s → (e : ℕ) → e < r → f ((a + e) % n) ≡ true → (d : ℕ) → d < e → f ((a + d) % n) ≡ true → ⊥

no-two : (p : ℕ → Bool) (k : ℕ) → (held p k < 2) ↔ ((e : ℕ) → e < k → p e ≡ true → (d : ℕ) → d < e → p d ≡ true → ⊥)
no-two p k = (
  λ h e l s d m t. omega (arith, (held-fewer p 0 e).0 ((held-fewer p 1 k).0 h e l s) d m t),
  λ h. (held-fewer p 1 k).1 (λ e l s. (held-fewer p 0 e).1 (λ d m t. absurd (h e l s d m t))),
)

clear : (ring : Bool) (n r w : ℕ) → (some_window ring n r 2 w ≡ false) ↔ Clear (λ p. down p w) r n (starts ring n r)
clear ring n r w =
    Iff.trans (no-window ring n r 2 w)
    (λ h a l. (no-two (window n a w) r).0 (h a l), λ h a l. (no-two (window n a w) r).1 (h a l))

module _ (f : ℕ → Bool) (n r : ℕ) (fits : r ≤ n) where
  line_clear : Apart f r n ↔ Clear f r n (suc n - r)
  line_clear = (
    λ h a l e m s d k t. omega (
      arith,
      h (a + e) (omega arith) (sym (at f n _ _ refl (omega arith)) ∙ s) (a + d) (omega arith) (sym (at f n _ _ refl (omega arith)) ∙ t),
    ),
    λ h q l s p m t. not-lt _ _ (λ g. let a = min p (n - r) in
        h a (omega arith) (q - a) (omega arith) (at f n _ q (omega arith) l ∙ s) (p - a) (omega arith) (at f n _ p (omega arith) (omega arith) ∙ t)),
  )

  ring-clear : Clean f r n 0 ↔ Clear f r n n
  ring-clear = (
    λ h a l e m s d k t. go h a l e m s d k t (dec_lt (a + e) n) (dec_lt (a + d) n),
    λ h. record {
      apart = λ q l s p m t. not-lt _ _ (λ g. h p (omega arith) (q - p) (omega arith) (at f n _ q (omega arith) l ∙ s) 0 (omega arith) (at f n _ p (omega arith) (omega arith) ∙ t));
      around = λ q l s p m t. not-lt _ _ (λ g. h q l (n - q + p) (omega arith) (turned f n _ p (omega arith) (omega arith) ∙ t) 0 (omega arith) (at f n _ q (omega arith) l ∙ s));
    },
  )
    where
      go : Clean f r n 0 → (a : ℕ) → a < n → (e : ℕ) → e < r → f ((a + e) % n) ≡ true → (d : ℕ) → d < e → f ((a + d) % n) ≡ true
          → Dec (a + e < n) → Dec (a + d < n) → ⊥
      go h a l e m s d k t (yes u) (yes v) =
          omega (arith, h.apart (a + e) u (sym (at f n _ _ refl u) ∙ s) (a + d) (omega arith) (sym (at f n _ _ refl v) ∙ t))
      go h a l e m s d k t (yes u) (no v) = omega arith
      go h a l e m s d k t (no u) (yes v) =
          omega (arith, h.around (a + d) v (sym (at f n _ _ refl v) ∙ t) (a + e - n) (omega arith) (sym (turned f n _ _ (omega arith) (omega arith)) ∙ s))
      go h a l e m s d k t (no u) (no v) =
          omega (
            arith,
            h.apart (a + e - n) (omega arith) (sym (turned f n _ _ (omega arith) (omega arith)) ∙ s) (a + d - n) (omega arith)
                (sym (turned f n _ _ (omega arith) (omega arith)) ∙ t),
          )

-- no two failed ones are nearer than r exactly if any two are r apart
module _ (n r w : ℕ) where
  abbrev nearBelow : ℕ → ℕ → Bool
  nearBelow j i = down i w && down j w && ltb (j - i) r

  pub near_apart : (two_near n r w ≡ false) ↔ Apart (λ p. down p w) r n
  unfolding two_near
  near_apart = (
    λ e q l s p m t. not-lt _ _ (λ g.
        (some-none (λ j. some (nearBelow j) j) n).0 e q l (some-found (nearBelow q) q p m (rw (t, s) (lt-ltb (q - p) r (omega arith))))),
    λ h. (some-none (λ j. some (nearBelow j) j) n).1 (λ q l e. true≢false (sym e ∙ (some-none (nearBelow q) q).1 (far h q l))),
  )
    where
      far : Apart (λ p. down p w) r n → (q : ℕ) → q < n → (p : ℕ) → p < q → nearBelow q p ≡ true → ⊥
      far h q l p m b =
          let u = both (down p w && down q w) (ltb (q - p) r) b in
          let v = both (down p w) (down q w) u.0 in
          omega (arith, h q l v.1 p m v.0, ltb-true (q - p) r u.1)

  -- the same by windows of r components, or of all n where that is fewer
  pub near-window : two_near n r w ≡ some_window false n (min r n) 2 w
  near-window = same _ _ (Iff.trans near_apart (Iff.trans shorter (line_clear (λ p. down p w) n (min r n) (omega arith)))) (clear false n (min r n) w)
    where
      shorter : Apart (λ p. down p w) r n ↔ Apart (λ p. down p w) (min r n) n
      shorter = (λ h q l s p m t. omega (arith, h q l s p m t), λ h q l s p m t. omega (arith, h q l s p m t))

      same : (a b : Bool) {P : Type 0} → ((a ≡ false) ↔ P) → ((b ≡ false) ↔ P) → a ≡ b
      same true true h k = refl
      same true false h k = absurd (true≢false (h.1 (k.0 refl)))
      same false true h k = absurd (true≢false (k.1 (h.0 refl)))
      same false false h k = refl

  -- the line: a ring on which r - 1 components work before the first
  past-line : 2 ≤ r → run (machine_of (row7 r)) n (live (pair (r - 1) 0)) w ≡ not (two_near n r w)
  past-line low =
      opposite _ _
      (Iff.trans (past-ok w r (omega arith) n (r - 1) 0)
      (λ h. h.apart, λ h. record { apart = h; low = λ p l a. omega arith; high = λ p l a. omega arith; wrap = omega arith }))
      near_apart

pub kind7 : (n r w : ℕ) → 2 ≤ r → r ≤ n → run (machine_of (row7 r)) n (live (lead 0)) w ≡ not (some_window true n r 2 w)
kind7 n r w low fits = opposite _ _ (Iff.trans (clean-ok w r (omega arith) n 0) (ring-clear (λ p. down p w) n r fits)) (clear true n r w)

-- the line's number g beside the ring's (r - 1, g)
data Beside (r : ℕ) : Memory ℕ → Memory Ring → Type 0 where
  level : {g : ℕ} → g < r → Beside r (live g) (live (pair (r - 1) g))
  none : Beside r dead dead

module _ (r : ℕ) (pos : 0 < r) where
  failed : (g : ℕ) → Beside r (failing6 r g) (failing7 r (pair (r - 1) g))
  unfolding failing6 failing7
  failed zero = level {g = r - 1} (omega arith)
  failed (suc g) = none

  alike : Alike (machine_of (row6 r)) (machine_of (row7 r)) (λ i. Beside r)
  unfolding moved ended working7 failing7 end7
  alike = record { works = λ i m m'. on-working; fails = λ i m m'. on-failed; last = λ m m'. at-end }
    where
      on-working : {m : Memory ℕ} {m' : Memory Ring} → Beside r m m' → Beside r (moved (λ g. live (g - 1)) m) (moved (working7 r) m')
      on-working (level {g = g} l) = level {g = g - 1} (omega arith)
      on-working none = none

      on-failed : {m : Memory ℕ} {m' : Memory Ring} → Beside r m m' → Beside r (moved (failing6 r) m) (moved (failing7 r) m')
      on-failed (level {g = g} l) = failed g
      on-failed none = none

      at-end : {m : Memory ℕ} {m' : Memory Ring} → Beside r m m' → ended (λ g. true) m ≡ ended end7 m'
      at-end (level {g = g} l) = sym (le-leb g (r - 1) (omega arith))
      at-end none = refl

-- the line reads as the ring past its lead
pub line-gap : (n r : ℕ) → 0 < r → Same (machine_of (row6 r)) (live 0) (machine_of (row7 r)) (live (pair (r - 1) 0)) n
line-gap n r pos = alike_same (alike r pos) n _ _ (level {g = 0} pos)

pub kind6 : (n r w : ℕ) → 2 ≤ r → run (machine_of (row6 r)) n (live 0) w ≡ not (two_near n r w)
kind6 n r w low = (line-gap n r (omega arith)).runs w ∙ past-line n r w low
