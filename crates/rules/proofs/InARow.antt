-- Kinds 4 and 5: reading through the memory is the verdict "some k in a row have all failed", on the line and on the ring.
-- The memory (t, s) with i components left stands for one line: t failed ones, the places below i, s failed ones, with no k in a row failed.
-- The line is the ring past its lead, at (0, 0). Assumes nothing.
use mathlib.Core.Path.{◌≡◌, refl, sym, ◌∙◌}
use mathlib.Core.Logic.Iff
use mathlib.Core.Logic.{◌↔◌}
use mathlib.Core.Bool.{Bool, true, false, cond, false≢true, not}
use Prim.Native.Nat.{ℕ, zero, suc, ◌+◌, ◌-◌, ◌%◌, ◌≤◌, ◌<◌}
use native.Mathlib.Omega.{arith}
use native.Mathlib.Nat.{lt_of_not-le, zero-add}
use native.Mathlib.Decide.{dec_lt}
use lib.Dec.{ltb}
use borrow.Author.Tests.{ltb-true, lt-ltb}
use Rattle.rules.specs.State.{down, window, starts}
use Rattle.rules.specs.Verdict.{some_window}
use Rattle.rules.specs.Memory.{run, Memory, live, dead, moved, ended, machine_of, below, Ring, lead, pair, working5, failing5, end5, row4, row5}
use Rattle.rules.proofs.Windows.{opposite, last, first, held_all, all_held, no-window, not-lt, at, turned}
use Rattle.rules.proofs.Reading.{step, upto}
use Rattle.rules.proofs.Simulation.{Alike, Same, alike_same}

-- t failed ones, then the places below i, then s failed ones: no k of them in a row have failed
abbrev Past : (f : ℕ → Bool) (k i t s : ℕ) → Type 0
Past f k i t s = (a : ℕ) → a + k ≤ t + i + s → ((p : ℕ) → p < i → a ≤ t + p → t + p < a + k → f p ≡ true) → ⊥

abbrev Clear : (f : ℕ → Bool) (k n s : ℕ) → Type 0
Clear f k n s = (a : ℕ) → a < s → ((d : ℕ) → d < k → f ((a + d) % n) ≡ true) → ⊥

clear : (ring : Bool) (n k w : ℕ) → (some_window ring n k k w ≡ false) ↔ Clear (λ p. down p w) k n (starts ring n k)
clear ring n k w = Iff.trans (no-window ring n k k w) (
  λ h a l all. omega (arith, h a l, held_all (window n a w) k all),
  λ h a l. lt_of_not-le (λ g. h a l (all_held (window n a w) k g)),
)

module _ (f : ℕ → Bool) (k : ℕ) where
  past-worked : (i t s : ℕ) → s < k → f i ≡ false → Past f k i t 0 ↔ Past f k (suc i) t s
  past-worked i t s small e = (
    λ h a l all.
        let g : a + k ≤ t + i = not-lt _ _ (λ o. false≢true (sym e ∙ all i (omega arith) (omega arith) o)) in
        h a (omega arith) (λ p m. all p (omega arith)),
    λ h a l all. h a (omega arith) (last _ i all (λ m o. absurd (omega arith))),
  )

  past-failed : (i t s : ℕ) → f i ≡ true → Past f k i t (suc s) ↔ Past f k (suc i) t s
  past-failed i t s e = (
    λ h a l all. h a (omega arith) (λ p m. all p (omega arith)),
    λ h a l all. h a (omega arith) (last _ i all (λ m o. e)),
  )

module _ (f : ℕ → Bool) (n k : ℕ) (pos : 0 < k) (fits : k ≤ n) where
  line_clear : Past f k n 0 0 ↔ Clear f k n (suc n - k)
  line_clear = (
    λ h a l all. h a (omega arith) (λ p m o u. sym (at f n _ p (omega arith) m) ∙ all (p - a) (omega arith)),
    λ h a l all. h a (omega arith) (λ d m. at f n _ (a + d) refl (omega arith) ∙ all (a + d) (omega arith) (omega arith) (omega arith)),
  )

  -- the ring opened at a place that works
  opened : (i t : ℕ) → t + suc i ≡ n → f i ≡ false → ((p : ℕ) → i < p → p < n → f p ≡ true) → Past f k i t 0 ↔ Clear f k n n
  opened i t sum e top = (λ h a l all. close h a l all (dec_lt i a), λ h a l all. open' h a l all (dec_lt a t))
    where
      close : Past f k i t 0 → (a : ℕ) → a < n → ((d : ℕ) → d < k → f ((a + d) % n) ≡ true) → Dec (i < a) → ⊥
      close h a l all (yes u) =
          let g : a + k ≤ n + i = not-lt _ _ (λ o. false≢true (sym e ∙ sym (turned f n _ i (omega arith) (omega arith)) ∙ all (n + i - a) (omega arith))) in
          h (a - suc i) (omega arith) (λ p m v o. sym (turned f n _ p (omega arith) (omega arith)) ∙ all (n + p - a) (omega arith))
      close h a l all (no u) =
          let g : a + k ≤ i = not-lt _ _ (λ o. false≢true (sym e ∙ sym (at f n _ i (omega arith) (omega arith)) ∙ all (i - a) (omega arith))) in
          h (a + t) (omega arith) (λ p m v o. sym (at f n _ p (omega arith) (omega arith)) ∙ all (p - a) (omega arith))

      open' : Clear f k n n → (a : ℕ) → a + k ≤ t + i + 0 → ((p : ℕ) → p < i → a ≤ t + p → t + p < a + k → f p ≡ true) → Dec (a < t) → ⊥
      open' h a l all (yes u) = h (suc i + a) (omega arith) (λ d m. go d m (dec_lt (a + d) t))
        where
          go : (d : ℕ) → d < k → Dec (a + d < t) → f ((suc i + a + d) % n) ≡ true
          go d m (yes v) = at f n _ _ refl (omega arith) ∙ top _ (omega arith) (omega arith)
          go d m (no v) = turned f n _ (a + d - t) (omega arith) (omega arith) ∙ all _ (omega arith) (omega arith) (omega arith)
      open' h a l all (no u) = h (a - t) (omega arith) (λ d m. at f n _ _ refl (omega arith) ∙ all _ (omega arith) (omega arith) (omega arith))

module _ (w k : ℕ) where
  abbrev f : ℕ → Bool
  f p = down p w

  past-ok : (i t s : ℕ) → s < k → (run (machine_of (row5 k)) i (live (pair t s)) w ≡ true) ↔ Past f k i t s
  unfolding run moved ended working5 failing5 end5
  past-ok zero t s small = (
    λ e a l all. omega (arith, ltb-true),
    λ h. lt-ltb (t + s) k (lt_of_not-le (λ g. h 0 (omega arith) (λ p l. absurd (omega arith)))),
  )
  past-ok (suc i) t s small = step (row5 k) w i (live (pair t s)) _
      (λ e. Iff.trans
      (upto (row5 k) w i (suc s) k (pair t (suc s)) _ (past-ok i t (suc s)) (λ u h. h (t + i) (omega arith) (λ p l m. absurd (omega arith))))
      (past-failed f k i t s e))
      (λ e. Iff.trans (past-ok i t 0 (omega arith)) (past-worked f k i t s small e))

module _ (n k w : ℕ) (pos : 0 < k) (fits : k ≤ n) where
  lead-ok : (i t : ℕ) → t + i ≡ n → t < k → ((p : ℕ) → i ≤ p → p < n → down p w ≡ true)
      → (run (machine_of (row5 k)) i (live (lead t)) w ≡ true) ↔ Clear (λ p. down p w) k n n
  unfolding moved working5 failing5
  lead-ok zero t sum small top = absurd (omega arith)
  lead-ok (suc i) t sum small top = step (row5 k) w i (live (lead t)) _
      (λ e. let more : (p : ℕ) → i ≤ p → p < n → down p w ≡ true = first _ i (λ _. e) top in
      upto (row5 k) w i (suc t) k (lead (suc t)) _ (λ u. lead-ok i (suc t) (omega arith) u more)
      (λ u h. h i (omega arith) (λ d m. at (λ p. down p w) n _ _ refl (omega arith) ∙ more (i + d) (omega arith) (omega arith))))
      (λ e. Iff.trans (past-ok w k i t 0 pos) (opened (λ p. down p w) n k pos fits i t sum e top))

  pub kind5 : run (machine_of (row5 k)) n (live (lead 0)) w ≡ not (some_window true n k k w)
  kind5 = opposite _ _ (lead-ok n 0 (omega arith) pos (λ p l m. absurd (omega arith))) (clear true n k w)

  -- the line: a ring on which a component works before the first
  past-line : run (machine_of (row5 k)) n (live (pair 0 0)) w ≡ not (some_window false n k k w)
  past-line = opposite _ _ (Iff.trans (past-ok w k n 0 0 pos) (line_clear (λ p. down p w) n k pos fits)) (clear false n k w)

-- the line's number s beside the ring's (0, s)
data Beside (k : ℕ) : Memory ℕ → Memory Ring → Type 0 where
  both : {s : ℕ} → s < k → Beside k (live s) (live (pair 0 s))
  none : Beside k dead dead

module _ (k : ℕ) (pos : 0 < k) where
  more : (s : ℕ) (b : Bool) → ltb s k ≡ b → Beside k (cond b (live s) dead) (cond b (live (pair 0 s)) dead)
  more s true e = both (ltb-true _ _ e)
  more s false e = none

  alike : Alike (machine_of (row4 k)) (machine_of (row5 k)) (λ i. Beside k)
  unfolding moved ended working5 failing5 end5
  alike = record { works = λ i m m'. on-working; fails = λ i m m'. on-failed; last = λ m m'. at-end }
    where
      on-working : {m : Memory ℕ} {m' : Memory Ring} → Beside k m m' → Beside k (moved (λ s. live 0) m) (moved working5 m')
      on-working (both l) = both pos
      on-working none = none

      on-failed : {m : Memory ℕ} {m' : Memory Ring} → Beside k m m' → Beside k (moved (λ s. below (suc s) k (suc s)) m) (moved (failing5 k) m')
      on-failed (both {s = s} l) = more (suc s) (ltb (suc s) k) refl
      on-failed none = none

      at-end : {m : Memory ℕ} {m' : Memory Ring} → Beside k m m' → ended (λ s. true) m ≡ ended (end5 k) m'
      at-end (both {s = s} l) = sym (rw zero-add (lt-ltb s k l))
      at-end none = refl

-- the line reads as the ring past its lead
pub line_row : (n k : ℕ) → 0 < k → Same (machine_of (row4 k)) (live 0) (machine_of (row5 k)) (live (pair 0 0)) n
line_row n k pos = alike_same (alike k pos) n _ _ (both pos)

pub kind4 : (n k w : ℕ) → 0 < k → k ≤ n → run (machine_of (row4 k)) n (live 0) w ≡ not (some_window false n k k w)
kind4 n k w pos fits = (line_row n k pos).runs w ∙ past-line n k w pos fits
