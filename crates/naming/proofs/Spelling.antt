-- Digits are read from the first on: what is spelled so far and the digits left spell the whole, and so many digits stay below that power of 10.
-- Assumes nothing.
use mathlib.Core.Path.{◌≡◌}
use mathlib.Core.Bool.{true, false}
use mathlib.Core.List.{List}
use Prim.Native.Nat.{ℕ, suc, ◌+◌, ◌*◌, ◌-◌, ◌^◌, ◌≤◌, ◌<◌}
use native.Mathlib.Omega.{arith}
use native.Mathlib.Nat.{pow-suc, pow-le-pow_right}
use lib.ListN.{length, get_or, drop}
use lib.Seq.{drop-cons, drop-length}
use Rattle.rules.specs.Below.{within}
use Rattle.naming.specs.Named.{longest_number, spelled}

module _ (x : ℕ) (word : List ℕ) (i : ℕ) where
  pub digit-on : i < length word → within 48 (get_or word i 0) 57 ≡ true → spelled (x * 10 + (get_or word i 0 - 48)) (drop (suc i) word) ≡ spelled x (drop i word)
  unfolding spelled
  digit-on l e = rw (drop-cons word i 0 l, e)

  pub no_digit : i < length word → within 48 (get_or word i 0) 57 ≡ false → spelled x (drop i word) ≡ 0
  unfolding spelled
  no_digit l e = rw (drop-cons word i 0 l, e)

  pub digits-end : i ≡ length word → spelled x (drop i word) ≡ x
  unfolding spelled
  digits-end e = rw (e, drop-length word)

-- one digit more, and as many as a word has at most
pub one_more : (x i digit : ℕ) → x < 10 ^ i → digit ≤ 9 → x * 10 + digit < 10 ^ suc i
one_more x i digit h l = rw (pow-suc 10 i) (omega arith)

pub few-digits : (i : ℕ) → i ≤ longest_number → 10 ^ i ≤ 10 ^ longest_number
few-digits i l = pow-le-pow_right (omega arith) {i = i} {j = longest_number} l
