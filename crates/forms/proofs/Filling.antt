-- A form filled in byte by byte: a byte more adds its own part, and no form takes more than its own length and the digits of six numbers. By induction over
-- the form. Assumes nothing.
use mathlib.Core.Path.{◌≡◌, refl, sym, ap, ◌∙◌}
use mathlib.Core.Bool.{Bool, true, false}
use mathlib.Core.List.{List, [], ◌∷◌, ◌++◌, append_assoc, append-nil}
use Prim.Native.Nat.{ℕ, suc, ◌+◌, ◌*◌, ◌-◌, ◌≤◌, ◌<◌}
use native.Mathlib.Omega.{arith}
use native.Mathlib.Numerals.{add-one}
use lib.Dec.{ltb, eqb}
use lib.ListN.{length, get_or, take, length-append}
use lib.Seq.{take-suc, length-take-le, take_all}
use borrow.Author.Tests.{ltb-true, ltb-false}
use Rattle.text.specs.Decimal.{most_digits}
use Rattle.text.specs.Added.{Added}
use Rattle.text.proofs.Adding.{none-added, added_more}
use Rattle.text.proofs.Digits.{decimal-short}
use Rattle.forms.specs.Form.{mark, most_marks, mark_text, part_text, next_place, filled_from, place_behind, form_text, form_room, PutText}

filled_more : (k : ℕ) (form : List ℕ) (byte : ℕ) (numbers : List ℕ)
    → filled_from k (form ++ (byte ∷ [])) numbers ≡ filled_from k form numbers ++ part_text byte numbers (place_behind k form)
unfolding filled_from place_behind
filled_more k [] byte numbers = append-nil (part_text byte numbers k)
filled_more k (b ∷ form) byte numbers =
    ap (λ t. part_text b numbers k ++ t) (filled_more (next_place b k) form byte numbers)
    ∙ sym (append_assoc (part_text b numbers k) (filled_from (next_place b k) form numbers) (part_text byte numbers (place_behind (next_place b k) form)))

place-more : (k : ℕ) (form : List ℕ) (byte : ℕ) → place_behind k (form ++ (byte ∷ [])) ≡ next_place byte (place_behind k form)
unfolding place_behind
place-more k [] byte = refl
place-more k (b ∷ form) byte = place-more (next_place b k) form byte

-- what a byte's part leaves of the room
abbrev left-of : (k : ℕ) → ℕ
left-of k = most_digits * (most_marks - k)

mark-short : (numbers : List ℕ) (k : ℕ) → length (mark_text numbers k) + left-of (suc k) ≤ left-of k
mark-short numbers k = by_size (ltb k most_marks) refl
  where
    by_size : (t : Bool) → ltb k most_marks ≡ t → length (mark_text numbers k) + left-of (suc k) ≤ left-of k
    by_size true e = rw e (omega (arith, ltb-true k most_marks e, decimal-short (get_or numbers k 0)))
    by_size false e = rw e (omega (arith, ltb-false k most_marks e))

part-short : (byte : ℕ) (numbers : List ℕ) (k : ℕ) → length (part_text byte numbers k) + left-of (next_place byte k) ≤ suc (left-of k)
part-short byte numbers k = by_byte (eqb byte mark) refl
  where
    by_byte : (t : Bool) → eqb byte mark ≡ t → length (part_text byte numbers k) + left-of (next_place byte k) ≤ suc (left-of k)
    by_byte true e = rw e (omega (arith, mark-short numbers k))
    by_byte false e = rw e (omega arith)

filled-short : (k : ℕ) (form numbers : List ℕ) → length (filled_from k form numbers) ≤ length form + left-of k
unfolding filled_from
filled-short k [] numbers = omega arith
filled-short k (byte ∷ form) numbers =
    let one = part-short byte numbers k in
    let rest = filled-short (next_place byte k) form numbers in
    omega (arith, one, rest, length-append (part_text byte numbers k) (filled_from (next_place byte k) form numbers))

pub form-short : (form numbers : List ℕ) → length (form_text form numbers) ≤ form_room form
form-short form numbers = omega (arith, filled-short 0 form numbers)

-- the first i bytes of a form, put into a buffer
pub record Filled (form numbers out₀ : List ℕ) (at : ℕ) (out : List ℕ) (end k i : ℕ) : Type 0 where
  pub place : k ≡ place_behind 0 (take i form)
  pub few : k ≤ i
  pub same : length out ≡ length out₀
  pub within : end ≤ length out
  pub added : at + form_room form ≤ length out₀ → Added (filled_from 0 (take i form) numbers) out₀ at out end

pub none_filled : (form numbers out : List ℕ) (at : ℕ) → at ≤ length out → Filled form numbers out at out at 0 0
unfolding filled_from place_behind
none_filled form numbers out at l =
    record { place = refl; few = omega arith; same = refl; within = l; added = λ room. none-added out at }

module _ {form numbers out₀ : List ℕ} {at : ℕ} {out : List ℕ} {end k i : ℕ} (f : Filled form numbers out₀ at out end k i) (l : i < length form) where
  abbrev byte : ℕ
  byte = get_or form i 0

  front-more : take (suc i) form ≡ take i form ++ (byte ∷ [])
  front-more = take-suc form i 0 l

  next-few : next_place byte k ≤ suc i
  next-few = by_byte (eqb byte mark) refl
    where
      by_byte : (t : Bool) → eqb byte mark ≡ t → next_place byte k ≤ suc i
      by_byte true e = rw e (omega (arith, f.few))
      by_byte false e = rw e (omega (arith, f.few))

  pub one-filled : {last : List ℕ} {stop : ℕ} → length last ≡ length out
      → PutText (part_text byte numbers k) (length (part_text byte numbers k)) out end last stop
      → Filled form numbers out₀ at last stop (next_place byte k) (i + 1)
  one-filled kept put = record {
    place = rw (add-one i, front-more, place-more 0 (take i form) byte, ← f.place);
    few = omega (arith, next-few);
    same = omega (arith, kept, f.same);
    within = put.within;
    added = λ room.
        let so_far = f.added room in
        let more = filled_more 0 (take i form) byte numbers in
        let longer = filled-short 0 (take i form ++ (byte ∷ [])) numbers in
        let sizes = length-append (filled_from 0 (take i form) numbers) (part_text byte numbers k) in
        let put-place = rw (← f.place) at more in
        let front = length-append (take i form) (byte ∷ []) in
        let fits : end + length (part_text byte numbers k) ≤ length out =
        omega (arith, l, room, so_far.ends, f.same, longer, ap length put-place, sizes, front, length-take-le i form (omega (arith, l))) in
        rw (add-one i, front-more, put-place) (added_more so_far (put.added fits));
  }

pub all-filled : {form numbers out₀ : List ℕ} {at : ℕ} {out : List ℕ} {end k i : ℕ} → Filled form numbers out₀ at out end k i → length form ≤ i
    → PutText (form_text form numbers) (form_room form) out₀ at out end
all-filled {form} f h = record { within = f.within; added = λ room. rw (take_all _ form h) at (f.added room) }
