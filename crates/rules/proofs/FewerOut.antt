-- Request 11: with fewer failed boards no fan's survival number is lower, and combined figures that fall with no such set fall with no board's number. By
-- induction over the boards, board 1 the lowest bit of a set. Assumes nothing.
use mathlib.Core.Path.{◌≡◌, refl, sym, ◌∙◌}
use mathlib.Core.Bool.{Bool, true, false, cond, false≢true}
use mathlib.Core.List.{List, [], ◌∷◌}
use Prim.Native.Nat.{ℕ, zero, suc, ◌+◌, ◌*◌, ◌/◌, ◌%◌, ◌^◌, ◌≤◌, ◌<◌, zero-le}
use native.Mathlib.Omega.{arith}
use native.Mathlib.Decide.{dec_lt}
use native.Mathlib.Nat.{mul-le-mul_left, add-le-add, add-zero, div-one}
use borrow.Author.Tests.{eqb-true, eq-eqb}
use lib.Arith.{digits_mod}
use lib.ListN.{length, get_or, get_or-eq_default}
use Rattle.rules.specs.State.{number_of, down}
use Rattle.rules.specs.Boards.{board_down, lost, behind, combined}
use Rattle.rules.specs.Better.{NoLower}
use Rattle.rules.proofs.Rounding.{round_up}
use Rattle.rules.proofs.Monotone.{mix-up}
use Rattle.rules.proofs.Sets.{down-up, behind-length, behind-number}
use Rattle.rules.proofs.Boards.{tail-units}

-- out' has no failed board that out has not
abbrev pub Fewer : (out' out : ℕ) → Type 0
Fewer out' out = (b : ℕ) → down b out' ≡ true → down b out ≡ true

pub same_out : (out : ℕ) → Fewer out out
same_out out b e = e

-- no smaller with fewer failed boards
abbrev Falling : (ℕ → ℕ) → Type 0
Falling f = (out out' : ℕ) → Fewer out' out → f out ≤ f out'

down-lowest : (out c : ℕ) → c < 2 → (out * 2 + c) / 2 ^ 0 % 2 ≡ c
down-lowest out c l = rw (div-one (out * 2 + c)) (digits_mod out l)

fewer-both : (out' out c c' : ℕ) → c' < 2 → c < 2 → c' ≤ c → Fewer out' out → Fewer (out' * 2 + c') (out * 2 + c)
fewer-both out' out c c' l' l h r zero =
    rw (down-lowest out' c' l', down-lowest out c l)
    (λ e. let one : c' ≡ 1 = eqb-true c' 1 e in eq-eqb c 1 (omega arith))
fewer-both out' out c c' l' l h r (suc b) = rw (down-up b out' c' l', down-up b out c l) (r b)

fewer-even : (out' out : ℕ) → Fewer out' out → Fewer (out' * 2) (out * 2)
fewer-even out' out r = rw (add-zero (out' * 2), add-zero (out * 2)) at (fewer-both out' out 0 0 (omega arith) (omega arith) (omega arith) r)

-- without board 1 and with it
fewer-first : (out : ℕ) → Fewer (out * 2) (out * 2 + 1)
fewer-first out = rw (add-zero (out * 2)) at (fewer-both out out 1 0 (omega arith) (omega arith) (omega arith) (same_out out))

-- the boards after the first
tail-better : (q q' : ℕ) (qs qs' : List ℕ) → NoLower (q ∷ qs) (q' ∷ qs') → NoLower qs qs'
tail-better q q' qs qs' better = record { same_length = omega (arith, better.same_length); no_lower = λ i. better.no_lower (suc i) }

module _ (up : Bool) (u : ℕ) (pos : 0 < u) where
  combined-more : (qs : List ℕ) (f f' : ℕ → ℕ) → ((out : ℕ) → f out ≤ f' out) → combined up u qs f ≤ combined up u qs f'
  unfolding combined
  combined-more [] f f' h = h 0
  combined-more (q ∷ qs) f f' h =
      round_up up u _ _ pos
      (add-le-add (mul-le-mul_left _ (combined-more qs _ _ (λ out. h (out * 2)))) (mul-le-mul_left _ (combined-more qs _ _ (λ out. h (out * 2 + 1)))))

  pub combined-better : (qs qs' : List ℕ) → NoLower qs qs' → ((i : ℕ) → get_or qs' i 0 ≤ u) → (f f' : ℕ → ℕ) → ((out : ℕ) → f out ≤ f' out) → Falling f'
      → combined up u qs f ≤ combined up u qs' f'
  unfolding combined
  combined-better [] [] better t f f' h r = h 0
  combined-better [] (q' ∷ qs') better t f f' h r = absurd (omega (arith, better.same_length))
  combined-better (q ∷ qs) [] better t f f' h r = absurd (omega (arith, better.same_length))
  combined-better (q ∷ qs) (q' ∷ qs') better t f f' h r =
      let tail = tail-better q q' qs qs' better in
      let t' = tail-units q' qs' t in
      round_up up u _ _ pos
      (mix-up u q q' _ _ _ _ (t 0) (better.no_lower 0)
      (combined-better qs qs' tail t' _ _ (λ out. h (out * 2)) (λ out out' m. r (out * 2) (out' * 2) (fewer-even out' out m)))
      (combined-better qs qs' tail t' _ _ (λ out. h (out * 2 + 1))
      (λ out out' m. r (out * 2 + 1) (out' * 2 + 1) (fewer-both out' out 1 1 (omega arith) (omega arith) (omega arith) m)))
      (combined-more qs' _ _ (λ out. r (out * 2 + 1) (out * 2) (fewer-first out))))

-- a fan that is lost with fewer failed boards is lost with more
fewer-down : (out' out b : ℕ) → Fewer out' out → board_down out' b ≡ true → board_down out b ≡ true
unfolding board_down
fewer-down out' out zero r e = e
fewer-down out' out (suc b) r e = r b e

cond-fewer : (c c' : Bool) (x x' : ℕ) → (c' ≡ true → c ≡ true) → x ≤ x' → cond c 0 x ≤ cond c' 0 x'
cond-fewer true c' x x' h l = zero-le
cond-fewer false true x x' h l = absurd (false≢true (h refl))
cond-fewer false false x x' h l = l

pub behind-better : (boards : List ℕ) (out out' : ℕ) (xs ys : List ℕ) → Fewer out' out → NoLower xs ys → NoLower (behind boards out xs) (behind boards out' ys)
unfolding number_of
behind-better boards out out' xs ys r better = record {
  same_length = behind-length boards out xs ∙ better.same_length ∙ sym (behind-length boards out' ys);
  no_lower = λ i. go i (dec_lt i (length xs));
}
  where
    go : (i : ℕ) → Dec (i < length xs) → get_or (behind boards out xs) i 0 ≤ get_or (behind boards out' ys) i 0
    go i (yes l) =
        rw (behind-number boards out xs i l, behind-number boards out' ys i (omega (arith, better.same_length)))
        (cond-fewer (lost boards out (suc i)) (lost boards out' (suc i)) _ _ (fewer-down out' out (number_of boards (suc i)) r) (better.no_lower i))
    go i (no l) = rw (get_or-eq_default (behind boards out xs) 0 {n = i} (omega (arith, behind-length boards out xs))) zero-le
