-- Request 14: the list of changes is exactly the places where the written bytes differ from the file's, in order: each such place stands behind all lower ones, with the
-- old and the new value; it has three numbers for each, and nothing else. By one place more at a time. Assumes nothing.
use mathlib.Core.Path.{◌≡◌, refl, sym, ap, ap₂, ◌∙◌}
use mathlib.Core.Bool.{Bool, true, false, cond, not}
use mathlib.Core.List.{List, [], ◌∷◌, ◌++◌, append_assoc, append-nil}
use Prim.Native.Nat.{ℕ, zero, suc, ◌+◌, ◌*◌, ◌≤◌, ◌<◌}
use native.Mathlib.Nat.{add-zero, add-suc}
use native.Mathlib.Decide.{dec_lt}
use native.Mathlib.Omega.{arith}
use lib.Dec.{eqb}
use lib.ListN.{length, get_or, length-append}
use borrow.Author.Tests.{eq-eqb}
use Rattle.rules.specs.Below.{held}
use Rattle.rules.specs.Mending.{per_change, differs, change_at, changes_below}

module _ (old new : List ℕ) where
  abbrev count : ℕ → ℕ
  count k = held (differs old new) k

  -- three numbers each
  pub changes-length : (k : ℕ) → length (changes_below old new k) ≡ per_change * count k
  unfolding changes_below held
  changes-length zero = refl
  changes-length (suc k) = length-append (changes_below old new k) (change_at old new k) ∙ go (changes-length k) (differs old new k)
    where
      go : length (changes_below old new k) ≡ per_change * count k → (b : Bool)
          → length (changes_below old new k) + length (cond b (k ∷ get_or old k 0 ∷ get_or new k 0 ∷ []) []) ≡ per_change * (count k + cond b 1 0)
      go e true = omega arith
      go e false = omega arith

  -- a place where they differ is listed, behind the lower ones
  pub record Listed (k place : ℕ) : Type 0 where
    pub later : List ℕ
    pub parts : changes_below old new k ≡ changes_below old new place ++ (place ∷ get_or old place 0 ∷ get_or new place 0 ∷ []) ++ later

  pub listed : (k place : ℕ) → place < k → differs old new place ≡ true → Listed k place
  unfolding changes_below
  listed zero place l d = absurd (omega arith)
  listed (suc k) place l d =
      elim (dec_lt place k) [
        | yes h ↦
            let before = listed k place h d in
            record {
              later = before.later ++ change_at old new k;
              parts = ap (λ xs. xs ++ change_at old new k) before.parts ∙ append_assoc (changes_below old new place ++ (place ∷ get_or old place 0 ∷ get_or new place 0 ∷ [])) before.later _;
            }
        | no h ↦
            let e : k ≡ place = omega arith in
            record {
              later = [];
              parts =
                  ap (λ p. changes_below old new p ++ change_at old new p) e
                  ∙ ap (λ b. changes_below old new place ++ cond b (place ∷ get_or old place 0 ∷ get_or new place 0 ∷ []) []) d
                  ∙ sym (append-nil _);
            }
      ]

  -- and what is listed is such a place: the one with so many before it
  pub each-listed : (k i : ℕ) → i < count k → (place : ℕ) × (place < k) × (differs old new place ≡ true) × (count place ≡ i)
  unfolding held
  each-listed zero i l = absurd (omega arith)
  each-listed (suc k) i l =
      elim (dec_lt i (count k)) [
        | yes h ↦ let before = each-listed k i h in (before.0, omega (arith, before.1), before.2, before.3)
        | no h ↦ last (differs old new k) refl l h
      ]
    where
      last : (b : Bool) → differs old new k ≡ b → i < count k + cond b 1 0 → (i < count k → ⊥)
          → (place : ℕ) × (place < suc k) × (differs old new place ≡ true) × (count place ≡ i)
      last true d l h = (k, omega arith, d, omega arith)
      last false d l h = absurd (h (omega arith))

  -- past a place from which on they are the same there are no changes more
  module _ (k : ℕ) where
    pub changes-upto : (j : ℕ) → ((i : ℕ) → i < j → get_or old (k + i) 0 ≡ get_or new (k + i) 0) → changes_below old new (k + j) ≡ changes_below old new k
    unfolding changes_below
    changes-upto zero same = rw (add-zero k)
    changes-upto (suc j) same =
        rw (add-suc k j, eq-eqb (get_or old (k + j) 0) (get_or new (k + j) 0) (same j (omega arith)), append-nil (changes_below old new (k + j)))
        (changes-upto j (λ i l. same i (omega arith)))

    pub count-upto : (j : ℕ) → ((i : ℕ) → i < j → get_or old (k + i) 0 ≡ get_or new (k + i) 0) → count (k + j) ≡ count k
    unfolding held
    count-upto zero same = rw (add-zero k)
    count-upto (suc j) same =
        rw (add-suc k j, eq-eqb (get_or old (k + j) 0) (get_or new (k + j) 0) (same j (omega arith)), add-zero (count (k + j)))
        (count-upto j (λ i l. same i (omega arith)))

  -- no more changes than places, and no fewer with more places
  pub count_most : (k : ℕ) → count k ≤ k
  unfolding held
  count_most zero = omega arith
  count_most (suc k) = go (count_most k) (differs old new k)
    where
      go : count k ≤ k → (b : Bool) → count k + cond b 1 0 ≤ suc k
      go h true = omega arith
      go h false = omega arith

  pub count-rises : (k j : ℕ) → count k ≤ count (k + j)
  unfolding held
  count-rises k zero = rw (add-zero k) (omega arith)
  count-rises k (suc j) = rw (add-suc k j) (omega (arith, count-rises k j))

-- the places below k tell
pub changes-same : (old new old' new' : List ℕ) (k : ℕ) → ((p : ℕ) → p < k → get_or old p 0 ≡ get_or old' p 0) → ((p : ℕ) → p < k → get_or new p 0 ≡ get_or new' p 0)
    → changes_below old new k ≡ changes_below old' new' k
unfolding changes_below
changes-same old new old' new' zero olds news = refl
changes-same old new old' new' (suc k) olds news =
    ap₂ (λ xs ys. xs ++ ys) (changes-same old new old' new' k (λ p l. olds p (omega arith)) (λ p l. news p (omega arith)))
    (ap₂ (λ x y. cond (not (eqb x y)) (k ∷ x ∷ y ∷ []) []) (olds k (omega arith)) (news k (omega arith)))
