-- The systems' numbers: six stored for each as its line is read, and five of them typed at the end. Assumes nothing.
use mathlib.Core.Path.{◌≡◌, refl, sym, ap, ◌∙◌}
use mathlib.Core.List.{List, [], ◌∷◌, ◌++◌, append_assoc, append-nil}
use Prim.Native.Nat.{ℕ, zero, suc, ◌+◌, ◌*◌, ◌/◌, ◌%◌, ◌≤◌, ◌<◌}
use native.Mathlib.Numerals.{add-one}
use native.Mathlib.Omega.{arith}
use lib.ListN.{length, get_or, take, drop, set, length-append, get_or-append}
use lib.Seq.{take-suc, get_or-drop, get_or-append-add}
use borrow.Author.Tests.{eq-eqb, ne_eqb}
use Rattle.rules.specs.File.{most_systems, per_system}
use Rattle.grammar.specs.Grammar.{most_number, most_set}
use Rattle.grammar.specs.Reads.{Within}
use Rattle.grammar.specs.Text.{five_of, numbers_of}
use Rattle.grammar.proofs.Accepted.{fives}
use Rattle.typed_lists.specs.declared.listed.Systems.{Systems}
use Rattle.typed_lists.specs.Lists.{Stored, per_listed, six_of, sixes, Ruled, typed_at}
use Rattle.typed_lists.proofs.Storing.{stored_at, stored_more}

-- what holds of each place below six holds below six
below-six : (P : ℕ → Type 0) → P 0 → P 1 → P 2 → P 3 → P 4 → P 5 → (k : ℕ) → k < per_listed → P k
below-six P p0 p1 p2 p3 p4 p5 zero l = p0
below-six P p0 p1 p2 p3 p4 p5 (suc zero) l = p1
below-six P p0 p1 p2 p3 p4 p5 (suc (suc zero)) l = p2
below-six P p0 p1 p2 p3 p4 p5 (suc (suc (suc zero))) l = p3
below-six P p0 p1 p2 p3 p4 p5 (suc (suc (suc (suc zero)))) l = p4
below-six P p0 p1 p2 p3 p4 p5 (suc (suc (suc (suc (suc zero))))) l = p5
below-six P p0 p1 p2 p3 p4 p5 (suc (suc (suc (suc (suc (suc k)))))) l = absurd (omega arith)

-- the six stand first among what a line sets, and fit 16 bits
pub six-at : (x : List ℕ) (k : ℕ) → k < per_listed → get_or (six_of x) k 0 ≡ get_or x k 0
six-at x = below-six (λ k. get_or (six_of x) k 0 ≡ get_or x k 0) refl refl refl refl refl refl

six-most : (k : ℕ) → k < per_listed → get_or most_set k 0 ≤ most_number
six-most = below-six (λ k. get_or most_set k 0 ≤ most_number) (omega arith) (omega arith) (omega arith) (omega arith) (omega arith) (omega arith)

pub six-small : (x : List ℕ) → Within x → (k : ℕ) → k < per_listed → get_or x k 0 ≤ most_number
six-small x w k l = omega (arith, w.small k, six-most k l)

sixes-last : (systems : List (List ℕ)) (x : List ℕ) → sixes (systems ++ (x ∷ [])) ≡ sixes systems ++ six_of x
unfolding sixes
sixes-last [] x = append-nil (six_of x)
sixes-last (y ∷ systems) x = ap (λ l. six_of y ++ l) (sixes-last systems x) ∙ sym (append_assoc (six_of y) (sixes systems) (six_of x))

-- after k of the six
module _ (room at : ℕ) (list x : List ℕ) where
  pub six-none : {array : List ℕ} → Stored room at array list → Stored room (at + 0) array (list ++ take 0 (six_of x))
  six-none f = let e : at + 0 ≡ at = omega arith in rw (e, append-nil list) f

  pub six-more : {array : List ℕ} {k : ℕ} → Stored room (at + k) array (list ++ take k (six_of x)) → k < per_listed → at + k < room
      → Stored room (at + (k + 1)) (set array (at + k) (get_or x k 0)) (list ++ take (k + 1) (six_of x))
  six-more {array} {k} f l h =
      let e : at + (k + 1) ≡ at + k + 1 = omega arith in
      let t : take (k + 1) (six_of x) ≡ take k (six_of x) ++ (get_or x k 0 ∷ []) =
      ap (λ n. take n (six_of x)) (add-one k) ∙ take-suc (six_of x) k 0 l ∙ ap (λ v. take k (six_of x) ++ (v ∷ [])) (six-at x k l) in
      rw (e, t, ← append_assoc list (take k (six_of x)) (get_or x k 0 ∷ [])) (stored_more f (get_or x k 0) h)

pub one_more : {r : Systems} {systems : List (List ℕ)} {array : List ℕ} (x : List ℕ) → Ruled r systems
    → Stored (most_systems * per_listed) (r.count * per_listed + per_listed) array (sixes systems ++ take per_listed (six_of x))
    → Ruled (record { count = r.count + 1; numbers = array }) (systems ++ (x ∷ []))
one_more {r} {systems} x h f = record {
  count = ap (λ n. n + 1) h.count ∙ sym (length-append systems (x ∷ []));
  numbers = let e : (r.count + 1) * per_listed ≡ r.count * per_listed + per_listed = omega arith in rw (e, sixes-last systems x) f;
}

-- a number of a system, by its place among all
sixes-at : (systems : List (List ℕ)) (s k : ℕ) → s < length systems → k < per_listed → get_or (sixes systems) (s * per_listed + k) 0 ≡ get_or (get_or systems s []) k 0
unfolding sixes
sixes-at [] s k l h = absurd (omega arith)
sixes-at (x ∷ systems) zero k l h =
    let e : zero * per_listed + k ≡ k = omega arith in
    ap (λ i. get_or (six_of x ++ sixes systems) i 0) e ∙ get_or-append (six_of x) (sixes systems) 0 k h ∙ six-at x k h
sixes-at (x ∷ systems) (suc s) k l h =
    let e : suc s * per_listed + k ≡ per_listed + (s * per_listed + k) = omega arith in
    ap (λ i. get_or (six_of x ++ sixes systems) i 0) e ∙ get_or-append-add (six_of x) (sixes systems) (s * per_listed + k) 0 ∙ sixes-at systems s k (omega arith) h

fives-at : (n : ℕ) (systems : List (List ℕ)) (s k : ℕ) → s < length systems → k < per_system
    → get_or (numbers_of n systems) (s * per_system + k) 0 ≡ get_or (five_of n (get_or systems s [])) k 0
unfolding numbers_of
fives-at n [] s k l h = absurd (omega arith)
fives-at n (x ∷ systems) zero k l h =
    let e : zero * per_system + k ≡ k = omega arith in
    ap (λ i. get_or (five_of n x ++ numbers_of n systems) i 0) e ∙ get_or-append (five_of n x) (numbers_of n systems) 0 k h
fives-at n (x ∷ systems) (suc s) k l h =
    let e : suc s * per_system + k ≡ per_system + (s * per_system + k) = omega arith in
    ap (λ i. get_or (five_of n x ++ numbers_of n systems) i 0) e ∙ get_or-append-add (five_of n x) (numbers_of n systems) (s * per_system + k) 0 ∙ fives-at n systems s k (omega arith) h

-- what the listed numbers say of a system is what its line set
module _ {r : Systems} {systems : List (List ℕ)} (h : Ruled r systems) (s : ℕ) (l : s < r.count) where
  listed_at : (k : ℕ) → k < per_listed → get_or (drop (s * per_listed) r.numbers) k 0 ≡ get_or (get_or systems s []) k 0
  listed_at k m =
      get_or-drop (s * per_listed) r.numbers k 0
      ∙ stored_at h.numbers (s * per_listed + k) (omega arith)
      ∙ sixes-at systems s k (omega (arith, h.count)) m

  same-five : (n : ℕ) → five_of n (drop (s * per_listed) r.numbers) ≡ five_of n (get_or systems s [])
  same-five n =
      rw (listed_at 0 (omega arith), listed_at 1 (omega arith), listed_at 2 (omega arith), listed_at 3 (omega arith), listed_at 4 (omega arith), listed_at 5 (omega arith))

pub typed_at_lem : {r : Systems} {systems : List (List ℕ)} → Ruled r systems → (n j : ℕ) → j < r.count * per_system → typed_at n r.numbers j ≡ get_or (numbers_of n systems) j 0
typed_at_lem {r} {systems} h n j l =
    let s : j / per_system < r.count = omega arith in
    let e : j / per_system * per_system + j % per_system ≡ j = omega arith in
    ap (λ x. get_or x (j % per_system) 0) (same-five h (j / per_system) s n)
    ∙ sym (fives-at n systems (j / per_system) (j % per_system) (omega (arith, h.count)) (omega arith))
    ∙ ap (λ i. get_or (numbers_of n systems) i 0) e

pub count-fives : {r : Systems} {systems : List (List ℕ)} → Ruled r systems → (n : ℕ) → length (numbers_of n systems) ≡ r.count * per_system
count-fives {r} {systems} h n = fives n systems ∙ ap (λ m. m * per_system) (sym h.count)

-- the number at a place, test by test
module _ (n : ℕ) (x : List ℕ) (k : ℕ) (l : k < per_system) where
  pub five-given : (get_or x 5 0 ≡ 0 → ⊥) → get_or (five_of n x) k 0 ≡ get_or x k 0
  five-given h =
      let e = ne_eqb (get_or x 5 0) 0 h in
      below-six (λ i. i < 5 → get_or (five_of n x) i 0 ≡ get_or x i 0) (λ m. refl) (λ m. refl) (λ m. refl) (λ m. rw e) (λ m. rw e) (λ m. absurd (omega arith)) k (omega arith) l

  module _ (h : get_or x 5 0 ≡ 0) where
    pub five-a : k ≡ 3 → get_or (five_of n x) k 0 ≡ 1
    five-a e = rw (e, eq-eqb (get_or x 5 0) 0 h)

    pub five-b : k ≡ 4 → get_or (five_of n x) k 0 ≡ n
    five-b e = rw (e, eq-eqb (get_or x 5 0) 0 h)

    pub five-rule : (k ≡ 3 → ⊥) → (k ≡ 4 → ⊥) → get_or (five_of n x) k 0 ≡ get_or x k 0
    five-rule p q =
        below-six (λ i. i < 5 → (i ≡ 3 → ⊥) → (i ≡ 4 → ⊥) → get_or (five_of n x) i 0 ≡ get_or x i 0) (λ m a b. refl) (λ m a b. refl) (λ m a b. refl)
        (λ m a b. absurd (a refl)) (λ m a b. absurd (b refl)) (λ m a b. absurd (omega arith)) k (omega arith) l p q
