-- Numbers as bytes, and bytes as numbers: reading the bytes of a number gives the number, and the bytes of what was read are those that were
-- read; the same of a list of numbers. A read depends on the bytes it reads alone. Assumes nothing.
use mathlib.Core.Path.{◌≡◌, refl, ap, ap₂, sym, ◌∙◌}
use mathlib.Core.List.{List, [], ◌∷◌, ◌++◌, append_assoc, append-nil}
use Prim.Native.Nat.{ℕ, zero, suc, ◌+◌, ◌*◌, ◌/◌, ◌%◌, ◌^◌, ◌≤◌, ◌<◌}
use native.Mathlib.Nat.{zero-add, suc-add, mul-zero, mul-suc, pow-suc}
use native.Mathlib.Numerals.{add-one, add-two}
use native.Mathlib.Omega.{arith}
use lib.ListN.{length, get_or, take, drop, length-append, length-take, length-drop}
use lib.Seq.{drop-cons, take-add, drop-drop, get_or-take, get_or-drop}
use Rattle.rules.specs.Below.{list_below}
use Rattle.rules.specs.File.{bytes_of, number_at, nth_number, numbers_from, all_bytes}
use Rattle.layout.specs.Fits.{Under, Bytes}
use Rattle.rules.proofs.Lists.{below-is}
use Rattle.layout.proofs.Under.{under_rest}

-- a read past a first byte, past a list, and within one
number_past : (width b : ℕ) (bytes : List ℕ) (at : ℕ) → number_at width (b ∷ bytes) (suc at) ≡ number_at width bytes at
unfolding number_at
number_past zero b bytes at = refl
number_past (suc width) b bytes at = rw (number_past width b bytes (suc at))

pub number-right : (width : ℕ) (xs ys : List ℕ) (at : ℕ) → number_at width (xs ++ ys) (length xs + at) ≡ number_at width ys at
number-right width [] ys at = rw zero-add
number-right width (x ∷ xs) ys at = rw (suc-add (length xs) at, number_past width x (xs ++ ys)) (number-right width xs ys at)

-- the same bytes from a place on, up to another
pub record Same (xs ys : List ℕ) (from upto : ℕ) : Type 0 where
  pub byte : (p : ℕ) → from ≤ p → p < upto → get_or xs p 0 ≡ get_or ys p 0

pub number_same : {xs ys : List ℕ} {from upto : ℕ} → Same xs ys from upto → (width at : ℕ) → from ≤ at → at + width ≤ upto → number_at width xs at ≡ number_at width ys at
unfolding number_at
number_same same zero at h l = refl
number_same same (suc width) at h l =
    ap₂ (λ b n. b + 256 * n) (same.byte at h (omega arith)) (number_same same width (suc at) (omega arith) (omega arith))

-- a number of two bytes, and one of four, by its halves
pub number-two : (bytes : List ℕ) (at : ℕ) → number_at 2 bytes at ≡ get_or bytes at 0 + 256 * get_or bytes (at + 1) 0
unfolding number_at
number-two bytes at = rw (add-one at) (omega arith)

pub number-four : (bytes : List ℕ) (at : ℕ) → number_at 4 bytes at ≡ number_at 2 bytes at + 65536 * number_at 2 bytes (at + 2)
unfolding number_at
number-four bytes at = rw (add-two at) (omega arith)

-- a number of so many bytes
pub number_fits : (width : ℕ) (bytes : List ℕ) (at : ℕ) → Bytes bytes → number_at width bytes at < 256 ^ width
unfolding number_at
number_fits zero bytes at small = omega arith
number_fits (suc width) bytes at small = rw (pow-suc 256 width) (omega (arith, small.each at, number_fits width bytes (suc at) small))

-- and so is what the program reads, since its bytes are bytes
pub spelled-fits : (width : ℕ) (bytes : List ℕ) (at : ℕ) {r : ℕ} → r ≡ number_at width bytes at → ((i : ℕ) → get_or bytes i 0 < 256) → r < 256 ^ width
spelled-fits width bytes at e small = rw e (number_fits width bytes at record { each = small })

pub number-bytes : (width x : ℕ) (ys : List ℕ) → x < 256 ^ width → number_at width (bytes_of width x ++ ys) 0 ≡ x
unfolding number_at bytes_of
number-bytes zero x ys h = omega arith
number-bytes (suc width) x ys h =
    let l : x / 256 < 256 ^ width = omega (arith, pow-suc 256 width) in
    rw (number_past width (x % 256) (bytes_of width (x / 256) ++ ys) 0, number-bytes width (x / 256) ys l) (omega arith)

pub bytes-number : (width : ℕ) (bytes : List ℕ) (at : ℕ) → Bytes bytes → at + width ≤ length bytes
    → bytes_of width (number_at width bytes at) ≡ take width (drop at bytes)
unfolding number_at bytes_of
bytes-number zero bytes at small h = refl
bytes-number (suc width) bytes at small h =
    let b = get_or bytes at 0 in
    let n = number_at width bytes (suc at) in
    let low : (b + 256 * n) % 256 ≡ b = omega (arith, small.each at) in
    let rest : (b + 256 * n) / 256 ≡ n = omega (arith, small.each at) in
    rw (drop-cons bytes at 0 (omega arith), low, rest, bytes-number width bytes (suc at) small (omega arith))

-- so many bytes each
pub bytes-length : (width x : ℕ) → length (bytes_of width x) ≡ width
unfolding bytes_of
bytes-length zero x = refl
bytes-length (suc width) x = ap suc (bytes-length width (x / 256))

pub all-length : (width : ℕ) (xs : List ℕ) → length (all_bytes width xs) ≡ width * length xs
unfolding all_bytes
all-length width [] = rw mul-zero
all-length width (x ∷ xs) =
    length-append (bytes_of width x) (all_bytes width xs) ∙ rw (bytes-length width x, all-length width xs, mul-suc) (omega arith)

pub all_append : (width : ℕ) (xs ys : List ℕ) → all_bytes width (xs ++ ys) ≡ all_bytes width xs ++ all_bytes width ys
unfolding all_bytes
all_append width [] ys = refl
all_append width (x ∷ xs) ys = rw (all_append width xs ys, append_assoc)

number_in : (width : ℕ) (xs ys : List ℕ) (i : ℕ) → Under (256 ^ width) xs → i < length xs
    → number_at width (all_bytes width xs ++ ys) (width * i) ≡ get_or xs i 0
unfolding all_bytes
number_in width [] ys i small h = absurd (omega arith)
number_in width (x ∷ xs) ys zero small h = rw (mul-zero, append_assoc) (number-bytes width x (all_bytes width xs ++ ys) (small.each 0))
number_in width (x ∷ xs) ys (suc i) small h =
    let e : width * suc i ≡ length (bytes_of width x) + width * i = rw (bytes-length width x, mul-suc) (omega arith) in
    rw (e, append_assoc, number-right width (bytes_of width x) (all_bytes width xs ++ ys) (width * i))
    (number_in width xs ys i (under_rest small) (omega arith))

-- a list's numbers stand in a file from a place on
pub record Stands (width : ℕ) (xs bytes : List ℕ) (at : ℕ) : Type 0 where
  pub before : List ℕ
  pub after : List ℕ
  pub parts : bytes ≡ before ++ all_bytes width xs ++ after
  pub place : length before ≡ at

-- reading the bytes of a list gives the list, and the bytes of a list that was read are those that were read
pub number-within : {width : ℕ} {xs bytes : List ℕ} {at : ℕ} → Stands width xs bytes at → Under (256 ^ width) xs
    → (i : ℕ) → i < length xs → nth_number width bytes at i ≡ get_or xs i 0
number-within {width} {xs} s small i h =
    rw (s.parts, ← s.place, append_assoc, number-right width s.before (all_bytes width xs ++ s.after) (width * i))
    (number_in width xs s.after i small h)

pub numbers-back : {width : ℕ} {xs bytes : List ℕ} {at : ℕ} → Stands width xs bytes at → Under (256 ^ width) xs
    → (n : ℕ) → length xs ≡ n → numbers_from width bytes at n ≡ xs
numbers-back {xs} s small n l = below-is xs 0 n _ l (λ i h. number-within s small i (rw l h))

pub bytes_back : (width : ℕ) (bytes : List ℕ) (at n : ℕ) → Bytes bytes → at + width * n ≤ length bytes
    → all_bytes width (numbers_from width bytes at n) ≡ take (width * n) (drop at bytes)
unfolding all_bytes list_below
bytes_back width bytes at zero small h = rw mul-zero
bytes_back width bytes at (suc n) small h =
    let e : width * suc n ≡ width * n + width = rw mul-suc (omega arith) in
    let fits : at + width * n + width ≤ length bytes = omega arith in
    rw (
      e,
      take-add (width * n) width (drop at bytes),
      drop-drop (width * n) at bytes,
      all_append width (numbers_from width bytes at n) (nth_number width bytes at n ∷ []),
      bytes_back width bytes at n small (omega arith),
    )
    (ap (λ x. take (width * n) (drop at bytes) ++ x) (append-nil _ ∙ bytes-number width bytes (at + width * n) small fits))

-- single bytes as they stand
pub bytes-are : (bytes : List ℕ) (at n : ℕ) → at + n ≤ length bytes → take n (drop at bytes) ≡ numbers_from 1 bytes at n
unfolding number_at
bytes-are bytes at n fits =
    sym
    (below-is (take n (drop at bytes)) 0 n _ (simp (length-take, length-drop) (omega arith))
    (λ i h.
    let place : at + 1 * i ≡ at + i = omega arith in
    let byte : get_or bytes (at + 1 * i) 0 + 256 * 0 ≡ get_or bytes (at + i) 0 = rw place (omega arith) in
    byte ∙ sym (get_or-take n (drop at bytes) i 0 h ∙ get_or-drop at bytes i 0)))
