-- Bytes laid over a room: how long it stays, that bytes laid one after the other are laid as one list, and what a loop lays, number by number.
-- Assumes nothing.
use mathlib.Core.Path.{◌≡◌, refl, sym, ap, ◌∙◌}
use mathlib.Core.List.{List, [], ◌∷◌, ◌++◌, append_assoc, append-nil}
use Prim.Native.Nat.{ℕ, suc, ◌+◌, ◌*◌, ◌/◌, ◌%◌, ◌≤◌, ◌<◌}
use native.Mathlib.Nat.{zero-add, add-zero, mul-suc, mul-le-mul_left}
use native.Mathlib.Numerals.{add-one}
use native.Mathlib.Omega.{arith}
use lib.ListN.{length, get_or, take, drop, set, length-append, length-drop, take-append-drop}
use lib.Seq.{length-take-le, take-suc, take_all, take_at, drop-append-add, drop-drop, sets-eq}
use Rattle.rules.specs.File.{bytes_of, all_bytes}
use Rattle.layout.proofs.Numbers.{bytes-length, all-length, all_append}
use Rattle.writer.specs.Laid.{laid}

module _ (at : ℕ) (room : List ℕ) where
  pub laid-length : (bytes : List ℕ) → at + length bytes ≤ length room → length (laid at bytes room) ≡ length room
  unfolding laid
  laid-length bytes fits =
      length-append (take at room ++ bytes) (drop (at + length bytes) room)
      ∙ omega (arith, length-append (take at room) bytes, length-take-le at room (omega arith), length-drop (at + length bytes) room)

  pub laid_none : laid at [] room ≡ room
  unfolding laid
  laid_none = rw (append-nil (take at room), add-zero at) (take-append-drop at room)

  -- what is laid where other bytes end is laid with them
  pub laid_more : (xs ys : List ℕ) (next : ℕ) → next ≡ at + length xs → at ≤ length room → laid next ys (laid at xs room) ≡ laid at (xs ++ ys) room
  unfolding laid
  laid_more xs ys next e fits =
      let front = take at room ++ xs in
      let rest = drop (at + length xs) room in
      let long : length front ≡ at + length xs = length-append (take at room) xs ∙ rw (length-take-le at room fits) in
      let place : next + length ys ≡ length front + length ys = omega (arith, long) in
      let end : at + length xs + length ys ≡ at + length (xs ++ ys) = omega (arith, length-append xs ys) in
      rw (
        take_at front rest next (omega (arith, long)),
        place,
        drop-append-add front rest (length ys),
        drop-drop (length ys) (at + length xs) room,
        end,
        append_assoc (take at room) xs ys,
      )

pub laid_next : (at next : ℕ) (room xs ys : List ℕ) {between last : List ℕ} → between ≡ laid at xs room → last ≡ laid next ys between
    → next ≡ at + length xs → at ≤ length room → last ≡ laid at (xs ++ ys) room
laid_next at next room xs ys one two e fits = two ∙ ap (laid next ys) one ∙ laid_more at room xs ys next e fits

-- laid from the front on
pub laid-front : (bytes room : List ℕ) → laid 0 bytes room ≡ bytes ++ drop (length bytes) room
unfolding laid
laid-front bytes room = rw (zero-add (length bytes))

-- a byte stored, and two stored one after the other, are laid
pub laid_one : (at a : ℕ) (room : List ℕ) → at + 1 ≤ length room → set room at a ≡ laid at (a ∷ []) room
unfolding laid
laid_one at a room fits = sets-eq (a ∷ []) room at fits

pub laid-two : (at a b : ℕ) (room : List ℕ) → at + 2 ≤ length room → set (set room at a) (at + 1) b ≡ laid at (a ∷ b ∷ []) room
unfolding laid
laid-two at a b room fits = rw (add-one at) (sets-eq (a ∷ b ∷ []) room at fits)

-- the bytes of a number of four, by its halves
pub bytes-four : (x : ℕ) → bytes_of 4 x ≡ bytes_of 2 (x % 65536) ++ bytes_of 2 (x / 65536)
unfolding bytes_of
bytes-four x =
    let first : x % 256 ≡ x % 65536 % 256 = omega arith in
    let low : x % 65536 / 256 < 256 = omega arith in
    let halves : x / 256 ≡ x % 65536 / 256 + 256 * (x / 65536) = omega arith in
    let second : x / 256 % 256 ≡ x % 65536 / 256 % 256 = rw halves (omega (arith, low)) in
    let upper : x / 256 / 256 ≡ x / 65536 = omega arith in
    λ i. first i ∷ second i ∷ (upper i % 256) ∷ (upper i / 256 % 256) ∷ []

-- a room over which a loop lays the numbers of a list, after i of them: what the loop begins with, what a number more makes of it, what it ends with
pub record Laying (width : ℕ) (numbers : List ℕ) (at : ℕ) (before after : List ℕ) (i : ℕ) : Type 0 where
  pub passed : i ≤ length numbers
  pub fits : at + width * length numbers ≤ length before
  pub stands : after ≡ laid at (all_bytes width (take i numbers)) before
  pub long : length after ≡ length before

module _ {width : ℕ} {numbers : List ℕ} {at : ℕ} {before : List ℕ} where
  pub laying-none : at + width * length numbers ≤ length before → Laying width numbers at before before 0
  unfolding all_bytes
  laying-none fits = record { passed = omega arith; fits = fits; stands = sym (laid_none at before); long = refl }

  pub laying-more : {room last : List ℕ} {i x : ℕ} → Laying width numbers at before room i → i < length numbers → x ≡ get_or numbers i 0
      → last ≡ laid (at + width * i) (bytes_of width x) room → Laying width numbers at before last (i + 1)
  unfolding all_bytes
  laying-more {room} {last} {i} {x} l h e put =
      let done = take i numbers in
      let fewer : length (all_bytes width done) ≡ width * i = all-length width done ∙ ap (λ k. width * k) (length-take-le i numbers l.passed) in
      let upto : width * suc i ≤ width * length numbers = mul-le-mul_left width h in
      let more : width * suc i ≡ width * i + width = rw mul-suc (omega arith) in
      let room-long = l.long in
      let one = bytes-length width x in
      let next : all_bytes width (take (i + 1) numbers) ≡ all_bytes width done ++ bytes_of width x
      = rw (add-one i, take-suc numbers i 0 h, ← e, all_append width done (x ∷ []), append-nil (bytes_of width x)) in
      record {
        passed = omega arith;
        fits = l.fits;
        stands =
            put
            ∙ ap (laid (at + width * i) (bytes_of width x)) l.stands
            ∙ laid_more at before (all_bytes width done) (bytes_of width x) (at + width * i) (omega (arith, fewer)) (omega (arith, l.fits))
            ∙ ap (λ bytes. laid at bytes before) (sym next);
        long = ap length put ∙ laid-length (at + width * i) room (bytes_of width x) (omega (arith, l.fits)) ∙ l.long;
      }

  pub laying-all : {room : List ℕ} {i : ℕ} → Laying width numbers at before room i → length numbers ≤ i → room ≡ laid at (all_bytes width numbers) before
  laying-all {i} l h = l.stands ∙ ap (λ xs. laid at (all_bytes width xs) before) (take_all i numbers h)
