-- The stretch's floats as the code takes them, their whole numbers at the front of a longer list, and the second rating on the table that the first has
-- worked in: as long as it was, so refused as little. Assumes nothing.
use mathlib.Core.Path.{◌≡◌, refl, sym, ap, ◌∙◌}
use mathlib.Core.Bool.{Bool, true, false}
use mathlib.Core.List.{List, map}
use Prim.Native.Nat.{ℕ, suc, ◌+◌, ◌-◌, ◌≤◌, ◌<◌}
use native.Mathlib.Omega.{arith}
use lib.Dec.{ltb}
use lib.ListN.{length, get_or, take, drop, length-map}
use lib.Seq.{ext_get_or, get_or-take, length-take-le}
use lib.Ieee.{Float}
use borrow.Author.Tests.{lt-ltb, not-false}
use Rattle.rules.specs.declared.Question.{Question}
use Rattle.rules.specs.Boards.{figure_behind}
use Rattle.rules.specs.Stretch.{stretch}
use Rattle.rules.specs.Asked.{asked_of, unit_in, read_of, boards_of, switchboards_of, rounded_of}
use Rattle.rules.specs.Refusal.{most, cells, bad_stretch}
use Rattle.rules.specs.Doubles.{whole_of, Planned, planned_refusal}
use Rattle.rules.proofs.Lists.{map-take, map-drop}
use Rattle.rules.proofs.EachKind.{within-true}
use Rattle.rules.proofs.Accepted.{first-same, in-stretch, stretch-length, stretch-get}
use Rattle.rules.proofs.Doubles.{whole-get, passed}
use Rattle.places.specs.declared.Ends.{Ends}
use Rattle.places.specs.Cells.{Kept}
use Rattle.doubles.specs.Floats.{bits, bits_of}
use Rattle.stretches.specs.Outcome.{Worked}
use Rattle.asked.proofs.Refused.{part-is}
use Rattle.planning.specs.Outcome.{Filled}

-- the floats that are read, as the code takes them
pub floats-are : (a b n : ℕ) (xs : List Float) → bad_stretch a b n ≡ false → bits_of (take (b - (a - 1)) (drop (a - 1) xs)) ≡ stretch a b (bits_of xs)
floats-are a b n xs inside =
    map-take bits (b - (a - 1)) (drop (a - 1) xs) ∙ ap (take (b - (a - 1))) (map-drop bits (a - 1) xs) ∙ part-is a b n (bits_of xs) inside

module _ (up : Bool) (a b : ℕ) (xs : List Float) (inside : bad_stretch a b (length xs) ≡ false) where
  abbrev floats : List Float
  floats = take (b - (a - 1)) (drop (a - 1) xs)

  pub floats-length : length floats ≡ suc b - a
  floats-length =
      let e = rw (← (length-map xs bits)) at inside in
      sym (length-map floats bits) ∙ ap length (floats-are a b (length xs) xs inside) ∙ stretch-length a b (bits_of xs) e

  -- their whole numbers, in a list of n out of a longer one
  pub filled-stretch : (numbers : List ℕ) → length xs ≤ most → Filled up (a - 1) floats numbers
      → (length (take (length xs) numbers) ≡ length xs) × (stretch a b (take (length xs) numbers) ≡ map (whole_of up) (stretch a b (bits_of xs)))
  filled-stretch numbers fit f = (long, ext_get_or 0 (stretch a b (take (length xs) numbers)) (map (whole_of up) (stretch a b (bits_of xs))) same each)
    where
      long : length (take (length xs) numbers) ≡ length xs
      long = length-take-le (length xs) numbers (omega (arith, f.long))

      size : length (stretch a b (take (length xs) numbers)) ≡ suc b - a
      size = stretch-length a b (take (length xs) numbers) (rw long inside)

      same : length (stretch a b (take (length xs) numbers)) ≡ length (map (whole_of up) (stretch a b (bits_of xs)))
      same = size ∙ sym (length-map (stretch a b (bits_of xs)) (whole_of up) ∙ stretch-length a b (bits_of xs) (rw (length-map xs bits) inside))

      each : (i : ℕ) → i < length (stretch a b (take (length xs) numbers)) → get_or (stretch a b (take (length xs) numbers)) i 0 ≡ get_or (map (whole_of up) (stretch a b (bits_of xs))) i 0
      each i l =
          let h = in-stretch a b (length xs) inside in
          let m : i < suc b - a = rw size at l in
          stretch-get a b (take (length xs) numbers) i ∙ rw (lt-ltb i (suc b - a) m)
          (get_or-take (length xs) numbers (a - 1 + i) 0 (omega arith) ∙ f.filled i (rw floats-length m)
          ∙ ap (λ bs. whole_of up (get_or bs i 0)) (floats-are a b (length xs) xs inside) ∙ sym (whole-get up (stretch a b (bits_of xs)) i))

-- the figures read the stretch alone
pub worked_same : (question : Question) (xs ys weights more boards switchboards : List ℕ) → stretch question.a question.b xs ≡ stretch question.a question.b ys
    → {t₀ t : List ℕ} {r : Ends} → Worked (asked_of question xs weights more boards switchboards) t₀ t r → Worked (asked_of question ys weights more boards switchboards) t₀ t r
worked_same question xs ys weights more boards switchboards same w =
    let q = asked_of question xs weights more boards switchboards in
    let part : (up : Bool) → rounded_of up q ≡ rounded_of up (asked_of question ys weights more boards switchboards)
    = λ up. ap (λ ps. figure_behind up (unit_in q) q.rule ps (read_of q) (boards_of q) (switchboards_of q)) same in
    record { low = w.low ∙ part false; high = w.high ∙ part true; kept = w.kept }

module _ (q : Planned) (table : List ℕ) (none : planned_refusal q table ≡ 0) where
  pub planned-fits : (1 ≤ q.a) × (q.a ≤ q.b) × (q.b ≤ length q.survival)
  planned-fits = in-stretch q.a q.b (length q.survival) (passed q table none).inside

  pub planned-most : length q.survival ≤ most
  planned-most = (within-true 1 (length q.survival) most (not-false _ (passed q table none).size)).1

  pub kept-planned : (later : List ℕ) → Kept table later → planned_refusal q later ≡ 0
  unfolding planned_refusal
  kept-planned later k =
      first-same 1 _ _ _ _ refl (λ one. first-same 2 _ _ _ _ refl (λ two. first-same 3 _ _ _ _ refl (λ three. first-same 18 _ _ _ _ refl (λ eighteen.
      first-same 5 _ _ _ _ refl (λ five. first-same 6 _ _ _ _ refl (λ six. first-same 19 _ _ _ _ refl (λ nineteen.
      first-same 7 _ _ _ _ (ap (λ n. ltb n cells) k.long) (λ seven. refl))))))))
      ∙ none
