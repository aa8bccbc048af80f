-- Kind 8: reading through the memory is the verdict "some r in a row hold fewer than k working", for any number of pairs. With i components left the
-- memory of the word w is the lowest bits of w / 2^i: what is dead there is a window that fails, or one that hangs over the end and is part of one
-- that does. Assumes nothing.
use mathlib.Core.Path.{◌≡◌, refl, ap, ◌∙◌}
use mathlib.Core.Logic.Iff
use mathlib.Core.Logic.{◌↔◌}
use mathlib.Core.Bool.{Bool, true, false, cond, not, ◌||◌, true≢false}
use mathlib.Core.List.{List}
use Prim.Native.Nat.{ℕ, zero, suc, ◌+◌, ◌-◌, ◌*◌, ◌/◌, ◌%◌, ◌^◌, ◌≤◌, ◌<◌}
use native.Mathlib.Omega.{arith}
use native.Mathlib.Nat.{div-eq_of_lt, mod-eq_of_lt}
use native.Mathlib.Decide.{dec_lt}
use lib.Pow.{pow_pos}
use borrow.Author.Tests.{eqb-true, eqb-false}
use Rattle.rules.specs.declared.Pair.{Pair}
use Rattle.rules.specs.Below.{some}
use Rattle.rules.specs.State.{down, held_in}
use Rattle.rules.specs.Memory.{run, live, dead, moved, ended, machine_of, kept, lacking_last, lacking_in, remembered, row8}
use Rattle.rules.specs.Pairs.{too_few, lacking, fails8, good_pair, in_range8}
use Rattle.rules.proofs.Tests.{by-test}
use Rattle.rules.proofs.Dead.{row-run}
use Rattle.rules.proofs.Windows.{some-none}
use Rattle.rules.proofs.Pairs.{too-few-more, exchange, any_same, any-upto, good-pair}
use Rattle.rules.proofs.Shifted.{grown, lowest, window-ones, hangs}

or-true : (a : Bool) → a || true ≡ true
or-true true = refl
or-true false = refl

or-false : (a : Bool) → a || false ≡ a
or-false true = refl
or-false false = refl

zero_bit : (x : ℕ) → (x % 2 ≡ 1 → ⊥) → x % 2 ≡ 0
zero_bit x h = go (dec_lt 0 (x % 2))
  where
    go : Dec (0 < x % 2) → x % 2 ≡ 0
    go (yes l) = absurd (h (omega arith))
    go (no l) = omega arith

-- two tests that fail alike
same_false : (a b : Bool) {P : Type 0} → ((a ≡ false) ↔ P) → ((b ≡ false) ↔ P) → a ≡ b
same_false true true h k = refl
same_false true false h k = absurd (true≢false (h.1 (k.0 refl)))
same_false false true h k = absurd (true≢false (k.1 (h.0 refl)))
same_false false false h k = refl

-- only the last states are looked at, as many as the longest window has
pub lacking-low : (ps : List Pair) (x : ℕ) → lacking_in ps (x % 2 ^ suc (kept ps)) ≡ lacking_in ps x
unfolding lacking_in
lacking-low ps x = any-upto _ _ (suc (kept ps)) (λ p l. rw (lowest (suc (kept ps)) p.r x l)) ps (omega arith)

-- and of these the memory keeps all but the first
remembered-low : (ps : List Pair) (x : ℕ) → remembered ps (x % 2 ^ suc (kept ps)) ≡ remembered ps x
unfolding remembered
remembered-low ps x = rw (lacking-low ps x, lowest (suc (kept ps)) (kept ps) x (omega arith))

module _ (ps : List Pair) (w : ℕ) where
  -- the states of the components read, with i left
  abbrev seen : ℕ → ℕ
  seen i = w / 2 ^ i

  -- the move on component i + 1, whichever state it has
  next : (i : ℕ) → cond (down i w) (remembered ps (2 * (seen (suc i) % 2 ^ kept ps) + 1)) (remembered ps (2 * (seen (suc i) % 2 ^ kept ps))) ≡ remembered ps (seen i)
  next i =
      by-test (λ x. x ≡ remembered ps (seen i)) (down i w) _ _
      (λ e. joined _ (omega (arith, grown (kept ps) i w, eqb-true (seen i % 2) 1 e)))
      (λ e. joined _ (omega (arith, grown (kept ps) i w, zero_bit (seen i) (eqb-false (seen i % 2) 1 e))))
    where
      joined : (x : ℕ) → x ≡ seen i % 2 ^ suc (kept ps) → remembered ps x ≡ remembered ps (seen i)
      joined x h = rw h (remembered-low ps (seen i))

  -- the reading from i components left on ends working exactly if at no place below i too few work
  reads : (i : ℕ) → run (machine_of (row8 ps)) i (live (seen i % 2 ^ kept ps)) w ≡ not (some (λ a. lacking_in ps (seen a)) i)
  unfolding run moved ended some remembered
  reads zero = refl
  reads (suc i) = rw (next i) (go (lacking_in ps (seen i)) (reads i))
    where
      go : (b : Bool) → run (machine_of (row8 ps)) i (live (seen i % 2 ^ kept ps)) w ≡ not (some (λ a. lacking_in ps (seen a)) i)
          → run (machine_of (row8 ps)) i (cond b dead (live (seen i % 2 ^ kept ps))) w ≡ not (some (λ a. lacking_in ps (seen a)) i || b)
      go true ih = rw (row-run (row8 ps) i w, or-true)
      go false ih = rw or-false ih

-- a window for each start on the line, or one for each component: the same verdict
module _ (p : Pair) (n w : ℕ) (one : 1 ≤ p.r) (fits : p.r ≤ n) (small : w < 2 ^ n) where
  at-starts : ((a : ℕ) → a < n → lacking_last (w / 2 ^ a) p ≡ true → ⊥) ↔ ((a : ℕ) → a < suc n - p.r → too_few p (held_in n a w p.r) ≡ true → ⊥)
  at-starts = (
    λ h a l e. h a (omega arith) (rw (← window-ones n a p.r w (omega arith)) e),
    λ h a l e. part h a e (dec_lt n (a + p.r)),
  )
    where
      part : ((a : ℕ) → a < suc n - p.r → too_few p (held_in n a w p.r) ≡ true → ⊥) → (a : ℕ) → lacking_last (w / 2 ^ a) p ≡ true → Dec (n < a + p.r) → ⊥
      part h a e (yes o) =
          h (n - p.r) (omega arith)
          (too-few-more p (omega (arith, hangs n a p.r w small fits (omega arith), window-ones n (n - p.r) p.r w (omega arith))) e)
      part h a e (no o) = h a (omega arith) (rw (window-ones n a p.r w (omega arith)) e)

  pair_same : some (λ a. lacking_last (w / 2 ^ a) p) n ≡ lacking n w p
  pair_same =
      same_false _ _ (Iff.trans (some-none (λ a. lacking_last (w / 2 ^ a) p) n) at-starts)
      (some-none (λ a. too_few p (held_in n a w p.r)) (suc n - p.r))

pub kind8 : (n : ℕ) (ps : List Pair) (w : ℕ) → in_range8 n ps ≡ true → w < 2 ^ n → run (machine_of (row8 ps)) n (live (row8 ps).start) w ≡ not (fails8 ps n w)
unfolding fails8 lacking_in in_range8
kind8 n ps w range small =
    let z : w / 2 ^ n % 2 ^ kept ps ≡ 0 = rw (div-eq_of_lt small) (mod-eq_of_lt (pow_pos (kept ps))) in
    let r = reads ps w n in
    (rw z at r)
    ∙ ap not
    (exchange (λ a. lacking_last (w / 2 ^ a)) n ps
    ∙ any_same (good_pair n) _ _ (λ p g. let h = good-pair n p g in pair_same p n w (omega (arith, h.some, h.order)) h.fits small) ps range)
