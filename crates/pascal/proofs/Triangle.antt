-- Pascal's rule for the counts of all words: the ends are 1, each other count is the sum of the two above. Hence a row reads the same from both
-- ends, and every count up to n = 64 fits 64 bits. Assumes nothing.
use mathlib.Core.Path.{◌≡◌, sym, ◌∙◌}
use mathlib.Core.Bool.{Bool, true}
use Prim.Native.Nat.{ℕ, zero, suc, ◌+◌, ◌^◌, ◌≤◌, ◌<◌}
use native.Mathlib.Omega.{arith}
use native.Mathlib.Nat.{add_comm}
use lib.Pow.{pow_pos, pow_mono}
use Rattle.rules.specs.Count.{count_if}
use Rattle.pascal.specs.Ways.{ways_of}
use Rattle.rules.proofs.Words.{count-base, count-zero, count-suc, count-above, count-le}

pub ways-sum : (n j : ℕ) → ways_of (suc n) (suc j) ≡ ways_of n j + ways_of n (suc j)
ways-sum n j = count-suc (λ w. true) n j ∙ add_comm (ways_of n (suc j)) (ways_of n j)

pub ways-first : (n : ℕ) → ways_of n 0 ≡ 1
ways-first zero = count-base (λ w. true)
ways-first (suc n) = count-zero (λ w. true) n ∙ ways-first n

pub ways-last : (n : ℕ) → ways_of n n ≡ 1
ways-last zero = ways-first 0
ways-last (suc n) = omega (arith, ways-sum n n, ways-last n, count-above (λ w. true) n (suc n) (omega arith))

-- as many states have i failed as have all but i failed
pub ways-mirror : (n i j : ℕ) → i + j ≡ n → ways_of n i ≡ ways_of n j
ways-mirror n zero j e =
    let all : j ≡ n = omega arith in
    rw all (ways-first n ∙ sym (ways-last n))
ways-mirror n (suc i) zero e =
    let all : suc i ≡ n = omega arith in
    rw all (ways-last n ∙ sym (ways-first n))
ways-mirror zero (suc i) (suc j) e = absurd (omega arith)
ways-mirror (suc n) (suc i) (suc j) e =
    omega (arith, ways-sum n i, ways-sum n j, ways-mirror n i (suc j) (omega arith), ways-mirror n (suc i) j (omega arith))

-- of the states of one component or more, at most half have j failed
pub ways-half : (n j : ℕ) → ways_of (suc n) j ≤ 2 ^ n
ways-half n zero = omega (arith, ways-first (suc n), pow_pos n)
ways-half zero (suc zero) = omega (arith, ways-last 1)
ways-half zero (suc (suc j)) = omega (arith, count-above (λ w. true) 1 (suc (suc j)) (omega arith))
ways-half (suc n) (suc j) = omega (arith, ways-sum (suc n) j, ways-half n j, ways-half n (suc j))

-- every entry of the table fits 64 bits, and every entry of a count table
pub ways-fit : (n j : ℕ) → n ≤ 64 → ways_of n j < 2 ^ 64
ways-fit zero zero h = omega (arith, ways-first 0)
ways-fit zero (suc j) h = omega (arith, count-above (λ w. true) 0 (suc j) (omega arith))
ways-fit (suc n) j h = omega (arith, ways-half n j, pow_mono {i = n} {j = 63} (omega arith))

pub count-fit : (working : ℕ → Bool) (n j : ℕ) → n ≤ 64 → count_if working n j < 2 ^ 64
count-fit working n j h = omega (arith, count-le working n j, ways-fit n j h)
