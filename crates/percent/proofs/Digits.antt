-- A percent's digits, written from the last one to the first, and how far its text reaches. Assumes nothing.
use mathlib.Core.Path.{◌≡◌, sym}
use mathlib.Core.Bool.{true, false}
use mathlib.Core.List.{List, ◌++◌, ◌∷◌}
use Prim.Native.Nat.{ℕ, zero, suc, ◌/◌, ◌%◌, ◌+◌, ◌-◌, ◌≤◌, ◌<◌}
use native.Mathlib.Omega.{arith}
use lib.ListN.{length, take, drop, set, length-append}
use lib.Seq.{length-take-le, append_snoc, set_split, drop_at}
use Rattle.text.specs.Added.{Added}
use Rattle.text.proofs.Digits.{decimal-short}
use Rattle.text.specs.Decimal.{text}
use Rattle.percent.specs.Percent.{point_digits, million, percent_of, last_digits, percent_text, percent_room, range_text, range_room}

-- the last digit of what is left, written before the others
pub digit-more : (k left : ℕ) (digits : List ℕ) → 0 < k → k ≤ length digits
    → last_digits (k - 1) (left / 10) ++ drop (k - 1) (set digits (k - 1) (48 + left % 10)) ≡ last_digits k left ++ drop k digits
unfolding last_digits
digit-more zero left digits some l = absurd (omega arith)
digit-more (suc k) left digits some l =
    let e : suc k - 1 ≡ k = omega arith in
    let d = 48 + left % 10 in
    rw (e, set_split digits k d (omega arith), drop_at (take k digits) (d ∷ drop (suc k) digits) k (length-take-le k digits (omega arith)))
    (sym (append_snoc (last_digits k (left / 10)) d (drop (suc k) digits)))

-- nothing left to write
pub all_digits : (k left : ℕ) (digits : List ℕ) → k ≡ 0 → last_digits k left ++ drop k digits ≡ digits
unfolding last_digits
all_digits k left digits e = rw e

pub last-length : (k n : ℕ) → length (last_digits k n) ≡ k
unfolding last_digits
last-length zero n = omega arith
last-length (suc k) n = simp length-append (omega (arith, last-length k (n / 10)))

-- how far a percent reaches, and a range
percent-short : (name : List ℕ) (m : ℕ) → length (percent_text name m) ≤ percent_room name
percent-short name m = simp length-append (omega (arith, decimal-short (m / million), last-length point_digits m))

pub percent-reach : {out after : List ℕ} {at end : ℕ} (name : List ℕ) (m : ℕ) → Added (percent_text name m) out at after end → end ≤ at + percent_room name
percent-reach name m added = omega (arith, added.ends, percent-short name m)

pub range-short : (u low high : ℕ) → length (range_text u low high) ≤ range_room
range-short u low high =
    let l = percent_text (text " ") (percent_of u false low) in
    let h = percent_text (text " to ") (percent_of u true high) in
    omega (arith, length-append l h, percent-short (text " ") (percent_of u false low), percent-short (text " to ") (percent_of u true high))
