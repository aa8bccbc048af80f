-- A stretch that a spare can be tried in: no place is refused, in the table as it was lent or as a rating has left it; one place more. Assumes nothing.
use Prim.Native.Nat.{ℕ, zero, suc, ◌+◌, ◌≤◌, ◌<◌, zero-le}
use mathlib.Core.Path.{◌≡◌, refl, sym, ap, ◌∙◌}
use mathlib.Core.Bool.{false, cond}
use mathlib.Core.List.{List, [], ◌∷◌}
use native.Mathlib.Decide.{ℕ_discrete, dec_lt}
use native.Mathlib.Omega.{arith}
use lib.Dec.{ltb}
use lib.ListN.{length, get_or, set, replicate, length-set}
use lib.Seq.{get_or-set_same, get_or-set_other}
use borrow.Author.Tests.{le-leb, le-ltb, lt-ltb}
use Rattle.rules.specs.State.{S}
use Rattle.rules.specs.Asked.{Asked, unit_in, length_of, size_of}
use Rattle.rules.specs.Refusal.{most, cells, figures_refusal}
use Rattle.rules.specs.Worth.{swapped, bad_fan}
use Rattle.rules.specs.Gain.{swapped_both}
use Rattle.rules.proofs.Accepted.{in-stretch, figures-ratable}
use Rattle.rules.proofs.Sure.{swapped-accepted}
use Rattle.rules.proofs.Gain.{rating-accepted, rating-small}
use Rattle.places.specs.Cells.{Kept}
use Rattle.places.specs.declared.Ends.{Ends}
use Rattle.stretches.specs.Outcome.{Worked}
use Rattle.swaps.specs.Swapping.{Swappable}
use Rattle.swaps.proofs.Replaced.{listed, kept-accepted, rated-within, worked-once}
use Rattle.spares.specs.Places.{spare_refusal, AsItIs, up_to, low_with, high_with, Rated}

abbrev pub clear : List ℕ
clear = replicate cells 0

module _ (q : Asked) (p : ℕ) (none : spare_refusal q p ≡ 0) where
  pub accepted : figures_refusal q clear ≡ 0
  accepted = rating-accepted q p clear none

  pub small : p ≤ unit_in q
  small = rating-small q p clear none

  -- the stretch lies in the list, which has at most 64 fans
  pub inside : (1 ≤ q.a) × (q.a ≤ q.b) × (q.b ≤ length_of q) × (length_of q ≤ most)
  inside =
      let h = in-stretch q.a q.b (length_of q) (figures-ratable q clear accepted).0 in
      (h.0, h.1, h.2, listed q clear accepted)

  -- a place of the stretch is a fan of it
  pub in-it : (i : ℕ) → i < size_of q → bad_fan q (q.a + i) ≡ false
  in-it i l = rw (le-leb q.a (q.a + i) (omega arith), le-leb (q.a + i) q.b (omega arith))

  pub swappable : (i j : ℕ) → i < size_of q → j < size_of q → (later : List ℕ) → Kept clear later
      → Swappable q (record { first = q.a + i; second = q.a + j; p = p }) later
  swappable i j l m later k = record { none = kept-accepted q clear accepted later k; first = in-it i l; second = in-it j m; small = small }

  pub place-within : (i : ℕ) → i < size_of q → {t₀ t : List ℕ} {ends : Ends} → Worked (swapped_both (q.a + i) (q.a + i) p q) t₀ t ends → (ends.low ≤ S) × (ends.high ≤ S)
  place-within i l w = rated-within (swapped (q.a + i) p q) clear (swapped-accepted q clear (q.a + i) p accepted small) (worked-once (q.a + i) p q w)

-- the figures as they are
pub as-it-is : (q : Asked) → figures_refusal q clear ≡ 0 → {t : List ℕ} {r : Ends} → Worked q clear t r → AsItIs q r
as-it-is q none w = record { low = w.low; high = w.high; within = rated-within q clear none w }

-- no place, and one more
zeros : (k i : ℕ) → ◌≡◌ {A = ℕ} (get_or (replicate k 0) i 0) 0
zeros zero i = refl
zeros (suc k) zero = refl
zeros (suc k) (suc i) = zeros k i

none_below : (f : ℕ → ℕ) (i : ℕ) → up_to 0 f i ≡ 0
none_below f i = rw (le-ltb i 0 zero-le)

pub no_place : (q : Asked) (p : ℕ) → Rated q p 0 (replicate most 0) (replicate most 0)
no_place q p = record {
  long = (refl, refl);
  low = λ i. zeros most i ∙ sym (none_below (low_with q p) i);
  high = λ i. zeros most i ∙ sym (none_below (high_with q p) i);
  within = λ i. let z = zeros most i in (omega arith, omega arith);
}

one_more : (k : ℕ) (f : ℕ → ℕ) (xs : List ℕ) (x : ℕ) → k < length xs → x ≡ f k → ((i : ℕ) → get_or xs i 0 ≡ up_to k f i) → (i : ℕ)
    → get_or (set xs k x) i 0 ≡ up_to (k + 1) f i
one_more k f xs x l is before i =
    elim (ℕ_discrete i k) [
      | yes e ↦ rw (e, lt-ltb k (k + 1) (omega arith)) (get_or-set_same xs k x 0 l ∙ is)
      | no other ↦ get_or-set_other xs k i x 0 other ∙ before i ∙ ap (λ b. cond b (f i) 0) (same_test other (dec_lt i k))
    ]
  where
    same_test : (i ≡ k → ⊥) → Dec (i < k) → ltb i k ≡ ltb i (k + 1)
    same_test other (yes h) = lt-ltb i k h ∙ sym (lt-ltb i (k + 1) (omega arith))
    same_test other (no h) = le-ltb i k (omega arith) ∙ sym (le-ltb i (k + 1) (omega (arith, other)))

within-set : (xs : List ℕ) (k x i : ℕ) → x ≤ S → get_or xs i 0 ≤ S → get_or (set xs k x) i 0 ≤ S
within-set [] k x i h s = s
within-set (y ∷ xs) zero x zero h s = h
within-set (y ∷ xs) zero x (suc i) h s = s
within-set (y ∷ xs) (suc k) x zero h s = s
within-set (y ∷ xs) (suc k) x (suc i) h s = within-set xs k x i h s

module _ {q : Asked} {p k : ℕ} {lows highs : List ℕ} (r : Rated q p k lows highs) where
  pub one_place : k < most → {t₀ t : List ℕ} {ends : Ends} → Worked (swapped_both (q.a + k) (q.a + k) p q) t₀ t ends → (ends.low ≤ S) × (ends.high ≤ S)
      → Rated q p (k + 1) (set lows k ends.low) (set highs k ends.high)
  one_place few {ends = ends} w small =
      let once = worked-once (q.a + k) p q w in
      record {
        long = (length-set lows k ends.low ∙ r.long.0, length-set highs k ends.high ∙ r.long.1);
        low = one_more k (low_with q p) lows ends.low (omega (arith, r.long.0)) once.low r.low;
        high = one_more k (high_with q p) highs ends.high (omega (arith, r.long.1)) once.high r.high;
        within = λ i. (within-set lows k ends.low i small.0 (r.within i).0, within-set highs k ends.high i small.1 (r.within i).1);
      }
