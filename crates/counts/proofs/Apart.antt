-- Kinds 6 and 7. What is owed is read first: from a debt the count is that of a line so much shorter. So kind 6 has a recurrence whose solution is
-- Pascal's, and a ring is a line past its clean ones, joined to the line that each failed one among them leaves. Assumes nothing.
use mathlib.Core.Path.{◌≡◌, sym, ◌∙◌}
use mathlib.Core.Bool.{true}
use mathlib.Core.Logic.{⊎_elim}
use Prim.Native.Nat.{ℕ, zero, suc, ◌+◌, ◌-◌, ◌*◌, ◌^◌, ◌≤◌, ◌<◌, min}
use native.Mathlib.Decide.{dec_lt}
use native.Mathlib.Omega.{arith}
use lib.Dec.{eqb-suc-zero}
use borrow.Author.Tests.{le-leb, lt-leb}
use Rattle.rules.specs.Memory.{live, lead, pair, moved, ended, row6, row7, failing6, working7, failing7, end7}
use Rattle.rules.proofs.Words.{count-above}
use Rattle.pascal.specs.Ways.{ways_of}
use Rattle.pascal.proofs.Triangle.{ways-sum, ways-first}
use Rattle.bins.specs.From.{from}
use Rattle.counts.specs.Ways.{apart_of, ring_of}
use Rattle.bins.proofs.Cells.{below_or}
use Rattle.bins.proofs.From.{from_end, from-above, from_zero, from_suc, from-dead, from-fits}

-- ---- kind 6

-- its line, read from memory 0
abbrev pub line6 : (r i j : ℕ) → ℕ
line6 r i j = from (row6 r) (live 0) i j

-- Pascal's rule over what c components leave, none of them where there are no more
ways-after : (i c j : ℕ) → ways_of (suc i - c) (suc (suc j)) ≡ ways_of (i - c) (suc j) + ways_of (i - c) (suc (suc j))
ways-after i c j =
    let none = count-above (λ w. true) in
    elim (dec_lt i c) [
      | yes l ↦
          omega (arith, none (i - c) (suc (suc j)) (omega arith), none (i - c) (suc j) (omega arith), none (suc i - c) (suc (suc j)) (omega arith))
      | no g ↦ let a : suc i - c ≡ suc (i - c) = omega arith in rw a (ways-sum (i - c) (suc j))
    ]

module _ (r : ℕ) where
  none6 : (g : ℕ) → from (row6 r) (live g) 0 0 ≡ 1
  unfolding ended
  none6 g = from_end (row6 r) (live g)

  -- what is owed is read first: g components that work, or as many as there are
  owed6 : (i g j : ℕ) → from (row6 r) (live g) i j ≡ line6 r (i - g) j
  unfolding moved failing6
  owed6 zero g zero = let e : 0 - g ≡ 0 = omega arith in rw e (none6 g ∙ sym (none6 0))
  owed6 zero g (suc j) = from-above (row6 r) (live g) 0 (suc j) (omega arith) ∙ sym (from-above (row6 r) (live 0) (0 - g) (suc j) (omega arith))
  owed6 (suc i) zero j = let e : suc i - 0 ≡ suc i = omega arith in rw e
  owed6 (suc i) (suc g) zero =
      let e : suc i - suc g ≡ i - g = omega arith in
      let d : suc g - 1 ≡ g = omega arith in
      rw e (from_zero (row6 r) (live (suc g)) i ∙ rw d (owed6 i g 0))
  owed6 (suc i) (suc g) (suc j) =
      let e : suc i - suc g ≡ i - g = omega arith in
      let d : suc g - 1 ≡ g = omega arith in
      rw e (from_suc (row6 r) (live (suc g)) i j ∙ rw d (omega (arith, owed6 i g (suc j), from-dead (row6 r) i j)))

  first6 : (i : ℕ) → line6 r i 0 ≡ 1
  unfolding moved
  first6 zero = none6 0
  first6 (suc i) = from_zero (row6 r) (live 0) i ∙ first6 i

  -- W(i, j) = W(i-1, j) + W(i-r, j-1)
  line6-suc : (i j : ℕ) → line6 r (suc i) (suc j) ≡ line6 r i (suc j) + line6 r (i - (r - 1)) j
  unfolding moved failing6
  line6-suc i j = from_suc (row6 r) (live 0) i j ∙ omega (arith, owed6 i (r - 1) j)

  no-ways : (j : ℕ) → line6 r 0 (suc j) ≡ ways_of (0 - j * (r - 1)) (suc j)
  no-ways j =
      from-above (row6 r) (live 0) 0 (suc j) (omega arith) ∙ sym (count-above (λ w. true) (0 - j * (r - 1)) (suc j) (omega arith))

  -- and so Pascal's: each failed one but one takes r - 1 components more
  line6-one : (i : ℕ) → line6 r i 1 ≡ ways_of (i - 0 * (r - 1)) 1
  line6-one zero = no-ways 0
  line6-one (suc i) =
      let a : suc i - 0 * (r - 1) ≡ suc i = omega arith in
      let b : i - 0 * (r - 1) ≡ i = omega arith in
      rw a (line6-suc i 0 ∙ omega (arith, rw b at (line6-one i), first6 (i - (r - 1)), ways-sum i 0, ways-first i))

  line6-more : (j : ℕ) → ((i : ℕ) → line6 r i (suc j) ≡ ways_of (i - j * (r - 1)) (suc j))
      → (i : ℕ) → line6 r i (suc (suc j)) ≡ ways_of (i - suc j * (r - 1)) (suc (suc j))
  line6-more j fewer zero = no-ways (suc j)
  line6-more j fewer (suc i) =
      let b : i - (r - 1) - j * (r - 1) ≡ i - suc j * (r - 1) = omega arith in
      line6-suc i (suc j)
      ∙ omega (arith, line6-more j fewer i, rw b at (fewer (i - (r - 1))), ways-after i (suc j * (r - 1)) j)

  line6-ways : (j i : ℕ) → line6 r i (suc j) ≡ ways_of (i - j * (r - 1)) (suc j)
  line6-ways zero i = line6-one i
  line6-ways (suc j) i = line6-more j (line6-ways j) i

  pub line6-is : (i j : ℕ) → line6 r i j ≡ apart_of (r - 1) i j
  unfolding apart_of
  line6-is i zero = first6 i ∙ sym (ways-first (i - (0 - 1) * (r - 1)))
  line6-is i (suc j) = let a : suc j - 1 ≡ j = omega arith in rw a (line6-ways j i)

-- ---- kind 7

module _ (r : ℕ) where
  -- more is owed than is left and lay clean at the start
  owing7 : (i x g j : ℕ) → i + x < g → from (row7 r) (live (pair x g)) i j ≡ 0
  unfolding moved ended working7 failing7 end7
  owing7 zero x g zero l = from_end (row7 r) (live (pair x g)) ∙ rw (lt-leb g x (omega arith))
  owing7 zero x g (suc j) l = from-above (row7 r) (live (pair x g)) 0 (suc j) (omega arith)
  owing7 (suc i) x zero j l = absurd (omega arith)
  owing7 (suc i) x (suc g) zero l =
      let d : suc g - 1 ≡ g = omega arith in
      from_zero (row7 r) (live (pair x (suc g))) i ∙ rw d (owing7 i x g 0 (omega arith))
  owing7 (suc i) x (suc g) (suc j) l =
      let d : suc g - 1 ≡ g = omega arith in
      from_suc (row7 r) (live (pair x (suc g))) i j ∙ rw d (omega (arith, owing7 i x g (suc j) (omega arith), from-dead (row7 r) i j))

  -- x clean ones at the start leave r - 1 - x to be clean at the end: a line without those and without the g owed
  owed7 : (i x g j : ℕ) → x ≤ r - 1 → g ≤ i + x → from (row7 r) (live (pair x g)) i j ≡ line6 r (i - (g + (r - 1 - x))) j
  unfolding moved ended working7 failing7 end7
  owed7 zero x g zero s l =
      from_end (row7 r) (live (pair x g)) ∙ rw (le-leb g x (omega arith)) (sym (first6 r (0 - (g + (r - 1 - x)))))
  owed7 zero x g (suc j) s l =
      from-above (row7 r) (live (pair x g)) 0 (suc j) (omega arith)
      ∙ sym (from-above (row6 r) (live 0) (0 - (g + (r - 1 - x))) (suc j) (omega arith))
  owed7 (suc i) x (suc g) zero s l =
      let d : suc g - 1 ≡ g = omega arith in
      let e : suc i - (suc g + (r - 1 - x)) ≡ i - (g + (r - 1 - x)) = omega arith in
      rw e (from_zero (row7 r) (live (pair x (suc g))) i ∙ rw d (owed7 i x g 0 s (omega arith)))
  owed7 (suc i) x (suc g) (suc j) s l =
      let d : suc g - 1 ≡ g = omega arith in
      let e : suc i - (suc g + (r - 1 - x)) ≡ i - (g + (r - 1 - x)) = omega arith in
      rw e (from_suc (row7 r) (live (pair x (suc g))) i j ∙ rw d (omega (arith, owed7 i x g (suc j) s (omega arith), from-dead (row7 r) i j)))
  owed7 (suc i) x zero zero s l =
      from_zero (row7 r) (live (pair x 0)) i
      ∙ omega (arith, owed7 i x 0 0 s (omega arith), first6 r (i - (0 + (r - 1 - x))), first6 r (suc i - (0 + (r - 1 - x))))
  owed7 (suc i) x zero (suc j) s l =
      from_suc (row7 r) (live (pair x 0)) i j
      ∙ ⊎_elim (short (owed7 i x 0 (suc j) s (omega arith))) (λ h. long (owed7 i x 0 (suc j) s (omega arith)) (owed7 i x (r - 1) j s h) h)
      (below_or (i + x) (r - 1))
    where
      short : from (row7 r) (live (pair x 0)) i (suc j) ≡ line6 r (i - (0 + (r - 1 - x))) (suc j) → i + x < r - 1
          → from (row7 r) (live (pair x 0)) i (suc j) + from (row7 r) (live (pair x (r - 1))) i j ≡ line6 r (suc i - (0 + (r - 1 - x))) (suc j)
      short e h = omega (
        arith,
        e,
        owing7 i x (r - 1) j h,
        from-above (row6 r) (live 0) (i - (0 + (r - 1 - x))) (suc j) (omega arith),
        from-above (row6 r) (live 0) (suc i - (0 + (r - 1 - x))) (suc j) (omega arith),
      )

      long : from (row7 r) (live (pair x 0)) i (suc j) ≡ line6 r (i - (0 + (r - 1 - x))) (suc j)
          → from (row7 r) (live (pair x (r - 1))) i j ≡ line6 r (i - (r - 1 + (r - 1 - x))) j → r - 1 ≤ i + x
          → from (row7 r) (live (pair x 0)) i (suc j) + from (row7 r) (live (pair x (r - 1))) i j ≡ line6 r (suc i - (0 + (r - 1 - x))) (suc j)
      long e f h =
          let a : suc i - (0 + (r - 1 - x)) ≡ suc (i - (0 + (r - 1 - x))) = omega arith in
          let b : i - (r - 1 + (r - 1 - x)) ≡ i - (0 + (r - 1 - x)) - (r - 1) = omega arith in
          rw a (omega (arith, e, rw b at f, line6-suc r (i - (0 + (r - 1 - x))) j))

  first7 : (i x : ℕ) → from (row7 r) (live (lead x)) i 0 ≡ 1
  unfolding moved ended working7 end7
  first7 zero x = from_end (row7 r) (live (lead x))
  first7 (suc i) x = from_zero (row7 r) (live (lead x)) i ∙ first7 i (min (suc x) (r - 1))

  -- past r - 1 clean ones the ring is a line
  clean7 : (i j : ℕ) → from (row7 r) (live (lead (r - 1))) i j ≡ line6 r i j
  unfolding moved ended working7 failing7 end7
  clean7 i zero = first7 i (r - 1) ∙ sym (first6 r i)
  clean7 zero (suc j) =
      from-above (row7 r) (live (lead (r - 1))) 0 (suc j) (omega arith) ∙ sym (from-above (row6 r) (live 0) 0 (suc j) (omega arith))
  clean7 (suc i) (suc j) =
      let a : min (suc (r - 1)) (r - 1) ≡ r - 1 = omega arith in
      let b : i - (r - 1 + (r - 1 - (r - 1))) ≡ i - (r - 1) = omega arith in
      from_suc (row7 r) (live (lead (r - 1))) i j
      ∙ rw a (omega (arith, clean7 i (suc j), rw b at (owed7 i (r - 1) (r - 1) j (omega arith) (omega arith)), line6-suc r i j))

  -- each clean one before that closes on the same line
  open7 : (d x i n j : ℕ) → x + d ≡ r - 1 → x + i ≡ n → r - 1 < n
      → from (row7 r) (live (lead x)) i (suc j) ≡ line6 r (n - (r - 1)) (suc j) + d * line6 r (n - 1 - 2 * (r - 1)) j
  unfolding moved working7 failing7
  open7 zero x i n j e f l =
      let a : x ≡ r - 1 = omega arith in
      let b : i ≡ n - (r - 1) = omega arith in
      rw (a, b) (omega (arith, clean7 (n - (r - 1)) (suc j)))
  open7 (suc d) x zero n j e f l = absurd (omega arith)
  open7 (suc d) x (suc i) n j e f l =
      let a : min (suc x) (r - 1) ≡ suc x = omega arith in
      let b : i - (r - 1 + (r - 1 - x)) ≡ n - 1 - 2 * (r - 1) = omega arith in
      from_suc (row7 r) (live (lead x)) i j
      ∙ rw a (omega (arith, open7 d (suc x) i n j (omega arith) (omega arith) l, rw b at (owed7 i x (r - 1) j (omega arith) (omega arith))))

  -- what the second line comes to
  line6-less : (n j : ℕ) → line6 r (n - 1 - 2 * (r - 1)) j ≡ ways_of (n - 1 - suc j * (r - 1)) j
  line6-less n zero = first6 r (n - 1 - 2 * (r - 1)) ∙ sym (ways-first (n - 1 - 1 * (r - 1)))
  line6-less n (suc j) =
      let a : n - 1 - 2 * (r - 1) - j * (r - 1) ≡ n - 1 - suc (suc j) * (r - 1) = omega arith in
      rw a at (line6-ways r j (n - 1 - 2 * (r - 1)))

  pub ring7-is : (n j : ℕ) → r - 1 < n → from (row7 r) (live (lead 0)) n j ≡ ring_of (r - 1) n j
  unfolding ring_of
  ring7-is n zero l = first7 n 0
  ring7-is n (suc j) l =
      let a : suc j - 1 ≡ j = omega arith in
      let b : n - (r - 1) - j * (r - 1) ≡ n - suc j * (r - 1) = omega arith in
      rw (eqb-suc-zero, a, ← b, ← line6-ways r j (n - (r - 1)), ← line6-less n j) (open7 (r - 1) 0 n n j (omega arith) (omega arith) l)

-- both terms together fit 64 bits
pub ring-fits : (owed n j : ℕ) → owed < n → n ≤ 64 → ring_of owed n j < 2 ^ 64
ring-fits owed n j l h =
    let a : suc owed - 1 ≡ owed = omega arith in
    rw (← rw a at (ring7-is (suc owed) n j (omega arith))) (from-fits (row7 (suc owed)) (live (lead 0)) n j h)
