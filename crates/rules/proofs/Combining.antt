-- Request 11: the combination as a loop works it. Of 2^g figures, one for each set of failed boards, board g takes those at F and F + 2^(g-1) to one at F, then board
-- g - 1, and board 1 last. `combinedTo b F` is what stands at F when the boards above b have been combined. A board that no rated fan is on mixes a value with itself,
-- which is that value, so that it may be passed over. Assumes nothing.
use mathlib.Core.Path.{◌≡◌, refl, ap, sym, ◌∙◌}
use mathlib.Core.Bool.{Bool}
use mathlib.Core.Logic.{◌≢◌}
use mathlib.Core.List.{List, [], ◌∷◌}
use Prim.Native.Nat.{ℕ, zero, suc, ◌+◌, ◌*◌, ◌-◌, ◌/◌, ◌%◌, ◌^◌, ◌≤◌, ◌<◌}
use native.Mathlib.Omega.{arith}
use native.Mathlib.Decide.{dec_lt}
use native.Mathlib.Nat.{pow-suc, pow-succ', add-zero, div-div-eq-div-mul}
use lib.Arith.{digits_div}
use lib.Pow.{pow-add}
use lib.ListN.{length, get_or, drop}
use Rattle.rules.specs.State.{number_of}
use Rattle.rules.specs.Figure.{rounded, mixed}
use Rattle.rules.specs.Boards.{board_down, lost, behind, combined}
use Rattle.rules.proofs.Lists.{below-is}
use Rattle.rules.proofs.Bits.{bit-above}
use Rattle.rules.proofs.Rounding.{unchanged}
use Rattle.rules.proofs.Sets.{behind-length, behind-number}
use Rattle.rules.proofs.Boards.{combined-same}

module _ (up : Bool) (u : ℕ) (qs : List ℕ) (f : ℕ → ℕ) where
  unfoldable pub combinedTo : (b F : ℕ) → ℕ
  combinedTo b F = combined up u (drop b qs) (λ G. f (G * 2 ^ b + F))

  -- before any board is combined: the figures
  pub combining-none : (F : ℕ) → combinedTo (length qs) F ≡ f F
  unfolding combinedTo combined
  combining-none F = rw (drop_all qs) (ap f (omega arith))
    where
      drop_all : (xs : List ℕ) → drop (length xs) xs ≡ []
      drop_all [] = refl
      drop_all (x ∷ xs) = drop_all xs

  -- board b + 1, one rounded step
  pub combining-step : (b F : ℕ) → b < length qs
      → combinedTo b F ≡ rounded up u (mixed u (get_or qs b 0) (combinedTo (suc b) F) (combinedTo (suc b) (F + 2 ^ b)))
  unfolding combinedTo combined
  combining-step b F l =
      rw (drop-one qs b l)
      (rw (
        combined-same up u (drop (suc b) qs) (λ G. f (G * 2 * 2 ^ b + F)) (λ G. f (G * 2 ^ suc b + F)) (λ G. ap f (rw (pow-suc 2 b) (omega arith))),
        combined-same up u (drop (suc b) qs) (λ G. f ((G * 2 + 1) * 2 ^ b + F)) (λ G. f (G * 2 ^ suc b + (F + 2 ^ b))) (λ G. ap f (rw (pow-suc 2 b) (omega arith))),
      ))
    where
      drop-one : (xs : List ℕ) (b : ℕ) → b < length xs → drop b xs ≡ get_or xs b 0 ∷ drop (suc b) xs
      drop-one [] b l = absurd (omega arith)
      drop-one (x ∷ xs) zero l = refl
      drop-one (x ∷ xs) (suc b) l = drop-one xs b (omega arith)

  -- after board 1: the answer
  pub combining-all : combinedTo 0 0 ≡ combined up u qs f
  unfolding combinedTo
  combining-all = combined-same up u qs _ f (λ G. ap f (omega arith))

  -- a board whose failing changes no figure
  pub combining-skip : (b F : ℕ) → b < length qs → 0 < u → get_or qs b 0 ≤ u → ((a : ℕ) → f ((a * 2 + 1) * 2 ^ b + F) ≡ f (a * 2 * 2 ^ b + F))
      → combinedTo b F ≡ combinedTo (suc b) F
  unfolding combinedTo
  combining-skip b F l pos s h =
      let same : combinedTo (suc b) (F + 2 ^ b) ≡ combinedTo (suc b) F =
      combined-same up u (drop (suc b) qs) _ _ (λ G. ap f (rw (pow-suc 2 b) (omega arith)) ∙ h G ∙ ap f (rw (pow-suc 2 b) (omega arith))) in
      combining-step b F l ∙ rw same (unchanged up u (get_or qs b 0) _ pos s)

-- ---- a board that no fan of the list is on

-- the bits of a word below bit b, and above it
below-bit : (b x w j : ℕ) → j < b → ((x * 2 ^ b + w) / 2 ^ j) % 2 ≡ (w / 2 ^ j) % 2
below-bit b x w j m =
    let d = b - suc j in
    let e : b ≡ d + suc j = omega arith in
    let p : x * 2 ^ b ≡ x * 2 ^ d * 2 ^ suc j = ap (λ v. x * 2 ^ v) e ∙ rw (pow-add 2 d (suc j)) (omega arith) in
    rw p (bit-above (x * 2 ^ d) j w)

above-bit : (b a w c j : ℕ) → w < 2 ^ b → c < 2 → b < j → (((a * 2 + c) * 2 ^ b + w) / 2 ^ j) % 2 ≡ (a / 2 ^ (j - suc b)) % 2
above-bit b a w c j h l m =
    let d = j - suc b in
    let e : j ≡ b + suc d = omega arith in
    let p : 2 ^ j ≡ 2 ^ b * (2 * 2 ^ d) = ap (λ v. 2 ^ v) e ∙ pow-add 2 b (suc d) ∙ rw (pow-succ' 2 d) in
    rw (p, ← (div-div-eq-div-mul ((a * 2 + c) * 2 ^ b + w) (2 ^ b) (2 * 2 ^ d)), digits_div (a * 2 + c) h, ← (div-div-eq-div-mul (a * 2 + c) 2 (2 ^ d)), digits_div a l)

-- with bit b set and clear, at every other place
other-bit : (b a w c j : ℕ) → w < 2 ^ b → c < 2 → j ≢ b → (((a * 2 + c) * 2 ^ b + w) / 2 ^ j) % 2 ≡ ((a * 2 * 2 ^ b + w) / 2 ^ j) % 2
other-bit b a w c j h l ne =
    elim (dec_lt j b) [
      | yes m ↦ below-bit b (a * 2 + c) w j m ∙ sym (below-bit b (a * 2) w j m)
      | no m ↦ let k : b < j = omega arith in above-bit b a w c j h l k ∙ sym (rw (add-zero (a * 2)) at (above-bit b a w 0 j h (omega arith) k))
    ]

-- two sets of failed boards that lose the same fans
pub behind-same : (boards : List ℕ) (out out' : ℕ) (survival : List ℕ) → ((i : ℕ) → i < length survival → lost boards out (suc i) ≡ lost boards out' (suc i))
    → behind boards out survival ≡ behind boards out' survival
unfolding behind number_of
behind-same boards out out' survival h =
    below-is (behind boards out' survival) 0 (length survival) _ (behind-length boards out' survival)
    (λ i l. rw (h i l) (sym (behind-number boards out' survival i l)))

-- board b + 1's failing changes no list, hence no figure
pub unused : (boards survival : List ℕ) (b : ℕ) → ((i : ℕ) → i < length survival → number_of boards (suc i) ≢ suc b)
    → (a w : ℕ) → w < 2 ^ b → behind boards ((a * 2 + 1) * 2 ^ b + w) survival ≡ behind boards (a * 2 * 2 ^ b + w) survival
unfolding board_down
unused boards survival b h a w l = behind-same boards _ _ survival (λ i m. go (number_of boards (suc i)) (h i m))
  where
    go : (k : ℕ) → k ≢ suc b → board_down ((a * 2 + 1) * 2 ^ b + w) k ≡ board_down (a * 2 * 2 ^ b + w) k
    go zero ne = refl
    go (suc j) ne = rw (other-bit b a w 1 j l (omega arith) (λ e. ne (ap suc e)))
