-- Row 8: the program's patterns read as document 02's memory, which they are but for the states that no window asks for: a living memory does not die
-- on a working component. And which patterns live. Assumes nothing.
use mathlib.Core.Path.{◌≡◌, refl, sym, ap, ◌∙◌}
use mathlib.Core.Bool.{Bool, true, false, cond, not, ◌&&◌, true≢false, false≢true}
use mathlib.Core.List.{List, [], ◌∷◌}
use Prim.Native.Nat.{ℕ, zero, suc, ◌+◌, ◌-◌, ◌*◌, ◌/◌, ◌%◌, ◌^◌, ◌≤◌, ◌<◌}
use native.Mathlib.Omega.{arith}
use native.Mathlib.Nat.{mod-eq_of_lt, div-eq_of_lt, add-zero, one-mul}
use native.Mathlib.Numerals.{add-one, one-add}
use native.Mathlib.Decide.{dec_lt}
use lib.Count.{ones}
use lib.Bits.{bit_and, and_mask}
use lib.Pow.{pow_pos, pow_mono, shr-shr, mod-pow-add, ones_split, ones_lt, high, low}
use borrow.Author.Tests.{le-ltb, not-true}
use Rattle.rules.specs.declared.Pair.{Pair}
use Rattle.rules.specs.Below.{held}
use Rattle.rules.specs.State.{down}
use Rattle.rules.specs.Memory.{Memory, live, dead, moved, ended, machine_of, longest, kept, lacking_last, lacking_in, remembered, row8}
use Rattle.rules.specs.Pairs.{any_of, all_of, good_pair, in_range8, longest_window, too_few}
use Rattle.rules.proofs.Bits.{held-ones}
use Rattle.rules.proofs.Sums.{held_same}
use Rattle.rules.proofs.Words.{held-add}
use Rattle.rules.proofs.Tests.{both}
use Rattle.rules.proofs.Windows.{some-none}
use Rattle.rules.proofs.Simulation.{Alike, Same, alike_same}
use Rattle.rules.proofs.Pairs.{too-few-more, any-more, good-pair}
use Rattle.rules.proofs.Shifted.{lowest}
use Rattle.rules.proofs.Lacking.{lacking-low}
use Rattle.rules.proofs.Fewer.{NoMore, no-more-low, grow, lacking-more}
use Rattle.memory.specs.Pattern.{many_patterns, oldest_of, dies, patterned, lives}

-- a window's bits: as many ones as the longest has, shifted down
ten-ones : (r : ℕ) → r ≤ 10 → 1023 / 2 ^ (10 - r) ≡ 2 ^ r - 1
ten-ones r l =
    let e : 10 ≡ r + (10 - r) = omega arith in
    let s : 1023 ≡ (2 ^ r - 1) * 2 ^ (10 - r) + (2 ^ (10 - r) - 1) = ap (λ x. 2 ^ x - 1) e ∙ ones_split r (10 - r) in
    ap (λ x. x / 2 ^ (10 - r)) s ∙ high (2 ^ r - 1) (10 - r) (ones_lt (10 - r))

pub window-bits : (x r : ℕ) → r ≤ 10 → bit_and x (1023 / 2 ^ (10 - r)) ≡ x % 2 ^ r
window-bits x r l = rw (ten-ones r l) (and_mask x r)

-- what is not true of y, where x would have it too
spared : (a b : Bool) → (a ≡ true → b ≡ true) → b ≡ false → a ≡ false
spared true b h e = absurd (true≢false (sym (h refl) ∙ e))
spared false b h e = refl

-- one state more, of s states
twice : (s a c : ℕ) → c < 2 → 2 * (a % 2 ^ s) + c ≡ (2 * a + c) % 2 ^ suc s
twice s a c l =
    let q : (2 * a + c) / 2 ^ 1 ≡ a = omega arith in
    let z : (2 * a + c) % 2 ^ 1 ≡ c = omega arith in
    rw (← add-one s, mod-pow-add (2 * a + c) s 1, q, z) (omega arith)

twice-even : (s a : ℕ) → 2 * (a % 2 ^ s) ≡ 2 * a % 2 ^ suc s
twice-even s a = simp add-zero at (twice s a 0 (omega arith))

-- a component's own state is the lowest bit, the others are those of before
shifted : (x c d : ℕ) → c < 2 → (2 * x + c) / 2 ^ suc d ≡ x / 2 ^ d
shifted x c d l =
    let h : (2 * x + c) / 2 ≡ x = omega arith in
    rw (← one-add d, ← shr-shr (2 * x + c) 1 d, h)

shifted_even : (x d : ℕ) → 2 * x / 2 ^ suc d ≡ x / 2 ^ d
shifted_even x d = simp add-zero at (shifted x 0 d (omega arith))

-- the window that ends in a working one holds no more failed than the one before it
older-held : (x r : ℕ) → held (λ d. down d (2 * x)) r ≤ held (λ d. down d x) r
unfolding held
older-held x zero = omega arith
older-held x (suc r) =
    let e = held-add (λ d. down d (2 * x)) 1 r in
    let s : held (λ d. down (1 + d) (2 * x)) r ≡ held (λ d. down d x) r = held_same _ _ r (λ d l. rw (one-add d, shifted_even x d)) in
    let z : held (λ d. down d (2 * x)) 1 ≡ 0 = first in
    omega (arith, e, s, z, ap (held (λ d. down d (2 * x))) (one-add r))
  where
    first : held (λ d. down d (2 * x)) 1 ≡ 0
    first = let z : 2 * x / 2 ^ 0 % 2 ≡ 0 = omega arith in rw z

older-lacking : (ps : List Pair) (x : ℕ) → lacking_in ps (2 * x) ≡ true → lacking_in ps x ≡ true
unfolding lacking_in
older-lacking ps x =
    any-more (lacking_last (2 * x)) (lacking_last x)
    (λ p. too-few-more p (omega (arith, older-held x p.r, held-ones x p.r, held-ones (2 * x) p.r))) ps

stays : (ps : List Pair) (x : ℕ) → lacking_in ps x ≡ false → lacking_in ps (2 * x) ≡ false
stays ps x = spared _ _ (older-lacking ps x)

zero-ones : ones 0 ≡ 0
unfolding ones
zero-ones = refl

-- with none failed enough work
pub none-lacking : (n : ℕ) (ps : List Pair) → in_range8 n ps ≡ true → lacking_in ps 0 ≡ false
unfolding in_range8 all_of lacking_in any_of
none-lacking n [] e = refl
none-lacking n (p ∷ ps) e =
    let g = both (good_pair n p) _ e in
    let enough : too_few p (ones 0) ≡ false = le-ltb (p.r - ones 0) p.k (omega (arith, zero-ones, (good-pair n p g.0).order)) in
    rw (mod-eq_of_lt (pow_pos p.r), enough) (none-lacking n ps g.1)

module _ (ps : List Pair) where
  data Beside : Memory ℕ → Memory ℕ → Type 0 where
    still : {a b : ℕ} → b ≡ a % 2 ^ kept ps → lacking_in ps (2 * b) ≡ false → Beside (live a) (live b)
    gone : Beside dead dead

  -- one state more on both sides
  next : (a c : ℕ) → c < 2 → lacking_in ps (2 * (a % 2 ^ kept ps) + c) ≡ false
      → Beside (live (2 * (a % oldest_of ps) + c)) (live ((2 * (a % 2 ^ kept ps) + c) % 2 ^ kept ps))
  next a c l e =
      let x = 2 * (a % 2 ^ kept ps) + c in
      let same : x % 2 ^ kept ps ≡ (2 * (a % oldest_of ps) + c) % 2 ^ kept ps =
      rw (twice (longest ps - 2) a c l, twice (kept ps) a c l, lowest (suc (longest ps - 2)) (kept ps) (2 * a + c) (omega arith), lowest (suc (kept ps)) (kept ps) (2 * a + c) (omega arith)) in
      still same (rw (twice-even (kept ps) x, lacking-low ps (2 * x)) (stays ps x e))

  next-failed : (a : ℕ) (t : Bool) → lacking_in ps (2 * (a % 2 ^ kept ps) + 1) ≡ t
      → Beside (cond t dead (live (2 * (a % oldest_of ps) + 1))) (cond t dead (live ((2 * (a % 2 ^ kept ps) + 1) % 2 ^ kept ps)))
  next-failed a true e = gone
  next-failed a false e = next a 1 (omega arith) e

  beside : Alike (machine_of (patterned ps)) (machine_of (row8 ps)) (λ i. Beside)
  unfolding moved ended remembered dies
  beside = record { works = λ i m m'. on-working; fails = λ i m m'. on-failed; last = λ m m'. at-end }
    where
      on-working : {m m' : Memory ℕ} → Beside m m' → Beside (moved (λ a. live (2 * (a % oldest_of ps))) m) (moved (λ b. remembered ps (2 * b)) m')
      on-working (still {a = a} {b = b} e h) = rw (e, rw e at h) (simp add-zero at (next a 0 (omega arith) (rw (add-zero, ← e) h)))
      on-working gone = gone

      on-failed : {m m' : Memory ℕ} → Beside m m'
          → Beside (moved (λ a. cond (lacking_in ps (2 * a + 1)) dead (live (2 * (a % oldest_of ps) + 1))) m) (moved (λ b. remembered ps (2 * b + 1)) m')
      on-failed (still {a = a} {b = b} e h) =
          let same : lacking_in ps (2 * a + 1) ≡ lacking_in ps (2 * (a % 2 ^ kept ps) + 1) = rw (twice (kept ps) a 1 (omega arith), lacking-low ps (2 * a + 1)) in
          rw (e, same) (next-failed a (lacking_in ps (2 * (a % 2 ^ kept ps) + 1)) refl)
      on-failed gone = gone

      at-end : {m m' : Memory ℕ} → Beside m m' → ended (λ a. true) m ≡ ended (λ b. true) m'
      at-end (still e h) = refl
      at-end gone = refl

  pub pattern-row8 : (n : ℕ) → in_range8 n ps ≡ true → Same (machine_of (patterned ps)) (live 0) (machine_of (row8 ps)) (live 0) n
  pattern-row8 n range = alike_same beside n _ _ (still (sym (mod-eq_of_lt (pow_pos (kept ps)))) (none-lacking n ps range))

-- which patterns live
record Alive (ps : List Pair) (m : ℕ) : Type 0 where
  all : (a : ℕ) → lacking_in ps (m / 2 ^ a) ≡ false

no-more-shift : {y x : ℕ} (a : ℕ) → NoMore y x → NoMore (y / 2 ^ a) (x / 2 ^ a)
no-more-shift {y} {x} a h = record { bit = λ d e. rw (shr-shr x a d) (h.bit (a + d) (rw (shr-shr y a d) at e)) }

module _ (ps : List Pair) (none : lacking_in ps 0 ≡ false) where
  alive : (m : ℕ) → m < many_patterns → lives ps m ≡ true → Alive ps m
  unfolding lives
  alive m small e = record { all = λ a. go a (dec_lt a longest_window) }
    where
      at : (a : ℕ) → a < longest_window → (b : Bool) → lacking_in ps (m / 2 ^ a) ≡ b → b ≡ false
      at a l true h = absurd ((some-none (λ a. lacking_in ps (m / 2 ^ a)) longest_window).0 (not-true _ e) a l h)
      at a l false h = refl

      go : (a : ℕ) → Dec (a < longest_window) → lacking_in ps (m / 2 ^ a) ≡ false
      go a (yes l) = at a l (lacking_in ps (m / 2 ^ a)) refl
      go a (no l) = let big : 2 ^ longest_window ≤ 2 ^ a = pow_mono {i = longest_window} {j = a} (omega arith) in let past : m < 2 ^ a = omega arith in rw (div-eq_of_lt past) none

  lives-alive : (m : ℕ) → Alive ps m → lives ps m ≡ true
  unfolding lives
  lives-alive m h = rw ((some-none (λ a. lacking_in ps (m / 2 ^ a)) longest_window).1 (λ a l e. false≢true (sym (h.all a) ∙ e)))

  alive-half : (m c : ℕ) → c < 2 → Alive ps (2 * m + c) → Alive ps m
  alive-half m c l h = record { all = λ a. rw (← shifted m c a l) (h.all (suc a)) }

  alive-more : (m c : ℕ) → c < 2 → lacking_in ps (2 * m + c) ≡ false → Alive ps m → Alive ps (2 * m + c)
  alive-more m c l e h = record { all = go }
    where
      go : (a : ℕ) → lacking_in ps ((2 * m + c) / 2 ^ a) ≡ false
      go zero = let z : (2 * m + c) / 1 ≡ 2 * m + c = omega arith in rw z e
      go (suc a) = rw (shifted m c a l) (h.all a)

  alive-here : (m : ℕ) → Alive ps m → lacking_in ps m ≡ false
  alive-here m h = let z : m / 1 ≡ m = omega arith in rw z at (h.all 0)

  pub lives-here : (m : ℕ) → m < many_patterns → lives ps m ≡ true → lacking_in ps m ≡ false
  lives-here m small e = alive-here m (alive m small e)

  module _ (m : ℕ) (small : m < 512) where
    -- a state more: a working one leaves what lives alive, a failed one where it does not die
    pub lives-worked : lives ps (2 * m) ≡ lives ps m
    lives-worked = go (lives ps m) refl (lives ps (2 * m)) refl
      where
        go : (a : Bool) → lives ps m ≡ a → (b : Bool) → lives ps (2 * m) ≡ b → b ≡ a
        go true e true f = refl
        go true e false f =
            let h = alive m (omega arith) e in
            let g = alive-more m 0 (omega arith) (rw add-zero (stays ps m (alive-here m h))) h in
            sym f ∙ lives-alive (2 * m) (simp add-zero at g)
        go false e true f = sym (lives-alive m (alive-half m 0 (omega arith) (rw add-zero (alive (2 * m) (omega arith) f)))) ∙ e
        go false e false f = refl

    pub lives-failed : lives ps (2 * m + 1) ≡ lives ps m && not (dies ps m)
    unfolding dies
    lives-failed = go (lives ps m) refl (lives ps (2 * m + 1)) refl (lacking_in ps (2 * m + 1)) refl
      where
        go : (a : Bool) → lives ps m ≡ a → (b : Bool) → lives ps (2 * m + 1) ≡ b → (c : Bool) → lacking_in ps (2 * m + 1) ≡ c → b ≡ a && not c
        go true e true f true g = absurd (true≢false (sym g ∙ alive-here (2 * m + 1) (alive (2 * m + 1) (omega arith) f)))
        go true e true f false g = refl
        go true e false f true g = refl
        go true e false f false g = sym f ∙ lives-alive (2 * m + 1) (alive-more m 1 (omega arith) g (alive m (omega arith) e))
        go false e true f c g = sym (lives-alive m (alive-half m 1 (omega arith) (alive (2 * m + 1) (omega arith) f))) ∙ e
        go false e false f c g = refl

  pub lives-none : lives ps 0 ≡ true
  lives-none = lives-alive 0 (record { all = λ a. rw (div-eq_of_lt (pow_pos a)) none })

  -- with states forgotten no more has failed
  pub lives-low : (s m : ℕ) → m < many_patterns → lives ps m ≡ true → lives ps (m % 2 ^ s) ≡ true
  lives-low s m small e =
      let h = alive m small e in
      lives-alive (m % 2 ^ s) (record { all = λ a. spared _ _ (lacking-more (no-more-shift a (no-more-low s m)) ps) (h.all a) })

-- with the oldest failed, what dies still dies
pub dies-older : (ps : List Pair) (s m : ℕ) → m < 2 ^ s → dies ps m ≡ true → dies ps (2 ^ s + m) ≡ true
unfolding dies
dies-older ps s m small =
    let e : (2 ^ s + m) % 2 ^ s ≡ m = simp one-mul at (low 1 s small) in
    let h : NoMore m (2 ^ s + m) = rw e at (no-more-low s (2 ^ s + m)) in
    lacking-more (grow h 1 1 (omega arith) (omega arith)) ps
