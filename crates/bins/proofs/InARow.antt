-- Kinds 4 and 5. v working components leave v + 1 bins for the failed ones, each of fewer than k. From s and from s + 1 failed ones the same states work,
-- but those that fill the bin to its brim: hence a sum that slides along. A ring is the bins between, and its lead and its tail together, fewer than k.
-- Assumes nothing.
use mathlib.Core.Path.{◌≡◌, refl, sym, ◌∙◌}
use mathlib.Core.Bool.{cond}
use mathlib.Core.Logic.{⊎_elim}
use Prim.Native.Nat.{ℕ, zero, suc, ◌+◌, ◌-◌, ◌*◌, ◌≤◌, ◌<◌}
use native.Mathlib.Omega.{arith}
use lib.Dec.{ltb}
use borrow.Author.Tests.{lt-ltb, le-ltb}
use Rattle.rules.specs.Below.{sum_below}
use Rattle.rules.specs.Memory.{live, lead, pair, below, moved, ended, row4, row5, working5, failing5, end5}
use Rattle.rules.proofs.Sums.{sum-add, sum-scale}
use Rattle.bins.specs.From.{from, line4, bins, shift}
use Rattle.bins.proofs.Cells.{below_or}
use Rattle.bins.proofs.From.{from_end, from-above, from_zero, from_suc, from-dead}

-- ---- shifts

pub shift-at : (f : ℕ → ℕ) (u j : ℕ) → u ≤ j → shift f u j ≡ f (j - u)
unfolding shift
shift-at f zero j l = let a : j - 0 ≡ j = omega arith in rw a
shift-at f (suc u) zero l = absurd (omega arith)
shift-at f (suc u) (suc j) l = let a : suc j - suc u ≡ j - u = omega arith in rw a (shift-at f u j (omega arith))

pub shift_past : (f : ℕ → ℕ) (u j : ℕ) → j < u → shift f u j ≡ 0
unfolding shift
shift_past f zero j l = absurd (omega arith)
shift_past f (suc u) zero l = refl
shift_past f (suc u) (suc j) l = shift_past f u j (omega arith)

shift_suc : (f : ℕ → ℕ) (u j : ℕ) → 0 < u → shift f u (suc j) ≡ shift f (u - 1) j
unfolding shift
shift_suc f zero j l = absurd (omega arith)
shift_suc f (suc u) j l = let a : suc u - 1 ≡ u = omega arith in rw a

-- ---- kind 4

-- with s failed ones just read, which k makes dead
abbrev ran : (k s i j : ℕ) → ℕ
ran k s i j = from (row4 k) (below s k s) i j

module _ (k : ℕ) where
  ran-none : (s : ℕ) → s < k → ran k s 0 0 ≡ 1
  unfolding ended
  ran-none s l = rw (lt-ltb s k l) (from_end (row4 k) (live s))

  ran-dead : (s i j : ℕ) → k ≤ s → ran k s i j ≡ 0
  ran-dead s i j l = rw (le-ltb s k l) (from-dead (row4 k) i j)

  ran-zero : (s i : ℕ) → s < k → ran k s (suc i) 0 ≡ line4 k i 0
  unfolding moved
  ran-zero s i l = rw (lt-ltb s k l) (from_zero (row4 k) (live s) i)

  ran-suc : (s i j : ℕ) → s < k → ran k s (suc i) (suc j) ≡ line4 k i (suc j) + ran k (suc s) i j
  unfolding moved
  ran-suc s i j l = rw (lt-ltb s k l) (from_suc (row4 k) (live s) i j)

  first4 : (i : ℕ) → line4 k i 0 ≡ 1
  unfolding moved ended
  first4 zero = from_end (row4 k) (live 0)
  first4 (suc i) = from_zero (row4 k) (live 0) i ∙ first4 i

  -- b bins hold what a line of b - 1 working components does
  bins-line : (b i j : ℕ) → suc i ≡ b + suc j → bins k b (suc j) ≡ line4 k i (suc j)
  unfolding bins
  bins-line zero i j e = omega (arith, from-above (row4 k) (live 0) i (suc j) (omega arith))
  bins-line (suc v) i j e = let a : v + suc j ≡ i = omega arith in rw a

  -- from s and from s + 1 failed ones the same states work, but those that fill the bin just to its brim
  brim : (d s b i j : ℕ) → s + suc d ≡ k → i ≡ b + j → ran k s i j ≡ ran k (suc s) i j + shift (bins k b) d j
  unfolding shift bins
  brim zero s zero zero zero e f = omega (arith, ran-none s (omega arith), ran-dead (suc s) 0 0 (omega arith))
  brim zero s zero zero (suc j) e f = absurd (omega arith)
  brim zero s (suc v) zero j e f = absurd (omega arith)
  brim zero s zero (suc i) zero e f = absurd (omega arith)
  brim zero s (suc v) (suc i) zero e f =
      let a : v + 0 ≡ i = omega arith in
      rw a (omega (arith, ran-zero s i (omega arith), ran-dead (suc s) (suc i) 0 (omega arith)))
  brim zero s b (suc i) (suc j) e f = omega (
    arith,
    ran-suc s i j (omega arith),
    ran-dead (suc s) i j (omega arith),
    ran-dead (suc s) (suc i) (suc j) (omega arith),
    bins-line b i j f,
  )
  brim (suc d) s b zero zero e f = omega (arith, ran-none s (omega arith), ran-none (suc s) (omega arith))
  brim (suc d) s b zero (suc j) e f = absurd (omega arith)
  brim (suc d) s b (suc i) zero e f = omega (arith, ran-zero s i (omega arith), ran-zero (suc s) i (omega arith))
  brim (suc d) s b (suc i) (suc j) e f = omega (
    arith,
    ran-suc s i j (omega arith),
    ran-suc (suc s) i j (omega arith),
    brim d (suc s) b i j (omega arith) (omega arith),
  )

  module _ (some : 0 < k) where
    ran_line : (i j : ℕ) → ran k 0 i j ≡ line4 k i j
    ran_line i j = rw (lt-ltb 0 k some)

    -- W(i, j) = W(i-1, j) + W(i-1, j-1) - W(i-1-k, j-k), by bins and with nothing subtracted
    slide : (b j : ℕ) → bins k (suc b) (suc j) + shift (bins k b) (k - 1) j ≡ bins k b (suc j) + bins k (suc b) j
    unfolding bins
    slide b j =
        let a : b + suc j ≡ suc (b + j) = omega arith in
        rw a
        (omega (
          arith,
          ran_line (suc (b + j)) (suc j),
          ran-suc 0 (b + j) j some,
          brim (k - 1) 0 b (b + j) j (omega arith) (omega arith),
          ran_line (b + j) j,
          bins-line b (b + j) j (omega arith),
        ))

    pub bins-first : (b : ℕ) → bins k b 0 ≡ 1
    unfolding bins
    bins-first zero = refl
    bins-first (suc v) = first4 (v + 0)

    -- the same for every column: in column 0 nothing slides in and nothing is let go
    pub bins-slide : (b j : ℕ) → bins k (suc b) j + shift (bins k b) k j ≡ bins k b j + shift (bins k (suc b)) 1 j
    unfolding shift
    bins-slide b zero = omega (arith, bins-first b, bins-first (suc b), shift_past (bins k b) k 0 some)
    bins-slide b (suc j) = omega (arith, slide b j, shift_suc (bins k b) k j some)

-- ---- sums

-- terms that are none may be left out
pub sum_past : (a b : ℕ) (f : ℕ → ℕ) → a ≤ b → ((m : ℕ) → a ≤ m → m < b → f m ≡ 0) → sum_below b f ≡ sum_below a f
sum_past a b f l e =
    let o : a + (b - a) ≡ b = omega arith in
    omega (arith, rw o at (sum-add a (b - a) f), sum-scale (b - a) 0 (λ w. f (a + w)) f (λ w h. omega (arith, e (a + w) (omega arith) (omega arith))))

-- each number once for itself and once for each before it
weighted : (d : ℕ) (f : ℕ → ℕ) → sum_below (suc d) (λ m. suc m * f m) ≡ sum_below (suc d) f + sum_below d (λ m. suc m * f (suc m))
unfolding sum_below
weighted zero f = omega arith
weighted (suc d) f = omega (arith, weighted d f)

-- ---- kind 5

-- with a lead of t, and s failed ones just read
abbrev tailed : (k t s i j : ℕ) → ℕ
tailed k t s i j = from (row5 k) (below s k (pair t s)) i j

module _ (k : ℕ) where
  tail-dead : (t s i j : ℕ) → k ≤ s → tailed k t s i j ≡ 0
  tail-dead t s i j l = rw (le-ltb s k l) (from-dead (row5 k) i j)

  tail-end : (t s : ℕ) → tailed k t s 0 0 ≡ cond (ltb (t + s) k) 1 0
  unfolding ended end5
  tail-end t s = ⊎_elim alive (λ l. tail-dead t s 0 0 l ∙ sym (rw (le-ltb (t + s) k (omega arith)))) (below_or s k)
    where
      alive : s < k → tailed k t s 0 0 ≡ cond (ltb (t + s) k) 1 0
      alive l = rw (lt-ltb s k l) (from_end (row5 k) (live (pair t s)))

  tail-zero : (t s i : ℕ) → s < k → tailed k t s (suc i) 0 ≡ tailed k t 0 i 0
  unfolding moved working5
  tail-zero t s i l = rw (lt-ltb s k l, lt-ltb 0 k (omega arith)) (from_zero (row5 k) (live (pair t s)) i)

  tail-suc : (t s i j : ℕ) → s < k → tailed k t s (suc i) (suc j) ≡ tailed k t 0 i (suc j) + tailed k t (suc s) i j
  unfolding moved working5 failing5
  tail-suc t s i j l = rw (lt-ltb s k l, lt-ltb 0 k (omega arith)) (from_suc (row5 k) (live (pair t s)) i j)

  tail-above : (t s i j : ℕ) → i < j → tailed k t s i j ≡ 0
  tail-above t s i j l = from-above (row5 k) (below s k (pair t s)) i j l

  tail-first : (i t s : ℕ) → t + s < k → tailed k t s i 0 ≡ 1
  tail-first zero t s l = tail-end t s ∙ rw (lt-ltb (t + s) k l)
  tail-first (suc i) t s l = tail-zero t s i (omega arith) ∙ tail-first i t 0 (omega arith)

  -- a lead of k is dead in the end
  tail_none : (i t s j : ℕ) → k ≤ t → tailed k t s i j ≡ 0
  tail_none zero t s zero l = tail-end t s ∙ rw (le-ltb (t + s) k (omega arith))
  tail_none zero t s (suc j) l = tail-above t s 0 (suc j) (omega arith)
  tail_none (suc i) t s zero l = ⊎_elim (λ h. tail-zero t s i h ∙ tail_none i t 0 0 l) (tail-dead t s (suc i) 0) (below_or s k)
  tail_none (suc i) t s (suc j) l =
      ⊎_elim (λ h. omega (arith, tail-suc t s i j h, tail_none i t 0 (suc j) l, tail_none i t (suc s) j l)) (tail-dead t s (suc i) (suc j))
      (below_or s k)

  -- the last component works, or fails and makes the lead longer
  last-zero : (t s i : ℕ) → t < k → tailed k t s (suc i) 0 ≡ tailed k 0 s i 0
  last-zero t s i l =
      ⊎_elim (λ h. tail-zero t s i h ∙ tail-first i t 0 (omega arith) ∙ sym (tail-first i 0 s (omega arith)))
      (λ h. tail-dead t s (suc i) 0 h ∙ sym (tail-dead 0 s i 0 h)) (below_or s k)

  last-dead : (t s i j : ℕ) → k ≤ s → tailed k t s (suc i) (suc j) ≡ tailed k 0 s i (suc j) + tailed k (suc t) s i j
  last-dead t s i j l = omega (arith, tail-dead t s (suc i) (suc j) l, tail-dead 0 s i (suc j) l, tail-dead (suc t) s i j l)

  last-suc : (i j t s : ℕ) → t < k → tailed k t s (suc i) (suc j) ≡ tailed k 0 s i (suc j) + tailed k (suc t) s i j
  last-suc zero zero t s l =
      let o : t + suc s ≡ suc t + s = omega arith in
      let ends = rw o at (tail-end t (suc s)) ∙ sym (tail-end (suc t) s) in
      ⊎_elim (λ h. omega (arith, tail-suc t s 0 0 h, tail-above t 0 0 1 (omega arith), tail-above 0 s 0 1 (omega arith), ends)) (last-dead t s 0 0)
      (below_or s k)
  last-suc zero (suc j) t s l = omega (
    arith,
    tail-above t s 1 (suc (suc j)) (omega arith),
    tail-above 0 s 0 (suc (suc j)) (omega arith),
    tail-above (suc t) s 0 (suc j) (omega arith),
  )
  last-suc (suc i) zero t s l =
      let next = last-suc i 0 t 0 l in
      ⊎_elim (λ h. omega (arith, tail-suc t s (suc i) 0 h, next, last-zero t (suc s) i l, tail-suc 0 s i 0 h, tail-zero (suc t) s i h))
      (last-dead t s (suc i) 0) (below_or s k)
  last-suc (suc i) (suc j) t s l =
      let next = last-suc i (suc j) t 0 l in
      let more = last-suc i j t (suc s) l in
      ⊎_elim (λ h. omega (arith, tail-suc t s (suc i) (suc j) h, next, more, tail-suc 0 s i (suc j) h, tail-suc (suc t) s i j h))
      (last-dead t s (suc i) (suc j)) (below_or s k)

  -- so behind a lead of t as many states work as behind a bin with t: the one read from the end is the other
  behind-none : (i j t : ℕ) → k ≤ t → tailed k t 0 i j ≡ ran k t i j
  behind-none i j t l = tail_none i t 0 j l ∙ sym (ran-dead k t i j l)

  behind-lead : (i j t : ℕ) → tailed k t 0 i j ≡ ran k t i j
  behind-lead zero zero t =
      ⊎_elim (λ (h : t < k). tail-first 0 t 0 (omega arith) ∙ sym (ran-none k t h)) (behind-none 0 0 t) (below_or t k)
  behind-lead zero (suc j) t = tail-above t 0 0 (suc j) (omega arith) ∙ sym (from-above (row4 k) (below t k t) 0 (suc j) (omega arith))
  behind-lead (suc i) zero t =
      ⊎_elim (λ (h : t < k). tail-first (suc i) t 0 (omega arith) ∙ sym (ran-zero k t i h ∙ first4 k i)) (behind-none (suc i) 0 t) (below_or t k)
  behind-lead (suc i) (suc j) t =
      let next = behind-lead i (suc j) 0 in
      let more = behind-lead i j (suc t) in
      ⊎_elim (λ (h : t < k). omega (arith, last-suc i j t 0 h, next, more, ran_line k (omega arith) i (suc j), ran-suc k t i j h))
      (behind-none (suc i) (suc j) t) (below_or t k)

  -- by the failed ones that are left to the bin: each bin's brim after the other
  ran-sum : (d s b j : ℕ) → s + d ≡ k → ran k s (b + j) j ≡ sum_below d (λ u. shift (bins k b) u j)
  unfolding sum_below
  ran-sum zero s b j e = ran-dead k s (b + j) j (omega arith)
  ran-sum (suc d) s b j e = omega (arith, brim k d s b (b + j) j e refl, ran-sum d (suc s) b j (omega arith))

  -- lead t
  abbrev led : (t i j : ℕ) → ℕ
  led t i j = from (row5 k) (below t k (lead t)) i j

  led-dead : (t i j : ℕ) → k ≤ t → led t i j ≡ 0
  led-dead t i j l = rw (le-ltb t k l) (from-dead (row5 k) i j)

  led-zero : (t i : ℕ) → t < k → led t (suc i) 0 ≡ tailed k t 0 i 0
  unfolding moved working5
  led-zero t i l = rw (lt-ltb t k l, lt-ltb 0 k (omega arith)) (from_zero (row5 k) (live (lead t)) i)

  led-suc : (t i j : ℕ) → t < k → led t (suc i) (suc j) ≡ tailed k t 0 i (suc j) + led (suc t) i j
  unfolding moved working5 failing5
  led-suc t i j l = rw (lt-ltb t k l, lt-ltb 0 k (omega arith)) (from_suc (row5 k) (live (lead t)) i j)

  led-all : (j t : ℕ) → k ≤ t + j → led t j j ≡ 0
  led-all zero t l = led-dead t 0 0 (omega arith)
  led-all (suc j) t l =
      ⊎_elim (λ h. omega (arith, led-suc t j j h, tail-above t 0 j (suc j) (omega arith), led-all j (suc t) (omega arith)))
      (led-dead t (suc j) (suc j)) (below_or t k)

  led-around : (d t v j : ℕ) → t + d ≡ k → led t (suc v + j) j ≡ sum_below d (λ m. suc m * shift (bins k v) m j)
  unfolding sum_below shift
  led-around zero t v j e = led-dead t (suc v + j) j (omega arith)
  led-around (suc d) t v zero e =
      let a : suc v + 0 ≡ suc (v + 0) = omega arith in
      let past = sum_past 1 (suc d) (λ m. suc m * shift (bins k v) m 0) (omega arith) (λ m p q. rw (shift_past (bins k v) m 0 p) (omega arith)) in
      rw a (omega (arith, led-zero t (v + 0) (omega arith), tail-first (v + 0) t 0 (omega arith), past, bins-first k (omega arith) v))
  led-around (suc d) t v (suc j) e =
      let a : suc v + suc j ≡ suc (suc v + j) = omega arith in
      let b : v + suc j ≡ suc v + j = omega arith in
      rw a
      (omega (
        arith,
        led-suc t (suc v + j) j (omega arith),
        behind-lead (suc v + j) (suc j) t,
        rw b at (ran-sum (suc d) t v (suc j) e),
        led-around d (suc t) v j (omega arith),
        weighted d (λ m. shift (bins k v) m (suc j)),
      ))

  module _ (some : 0 < k) where
    -- sum over lead + tail = m < k of m + 1 times the bins between
    pub ring5-is : (v j : ℕ) → from (row5 k) (live (lead 0)) (suc v + j) j ≡ sum_below k (λ m. suc m * shift (bins k v) m j)
    ring5-is v j = rw (lt-ltb 0 k some) at (led-around k 0 v j (omega arith))

    pub ring5-all : (n : ℕ) → k ≤ n → from (row5 k) (live (lead 0)) n n ≡ 0
    ring5-all n l = rw (lt-ltb 0 k some) at (led-all n 0 (omega arith))
