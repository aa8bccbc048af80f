-- Laws of cells: what a store, a run of zeros, and one change after another leave of a table, and that a list is known by its cells.
-- Assumes nothing.
use mathlib.Core.Path.{◌≡◌, refl, sym, ap, ◌∙◌}
use mathlib.Core.Bool.{Bool, true, false}
use mathlib.Core.Logic.{◌⊎◌, inl, inr, ⊎_elim}
use mathlib.Core.List.{List, ◌++◌}
use Prim.Native.Nat.{ℕ, zero, suc, ◌+◌, ◌-◌, ◌≤◌, ◌<◌}
use native.Mathlib.Decide.{dec_lt}
use native.Mathlib.Omega.{arith}
use lib.Dec.{ltb}
use lib.ListN.{length, get_or, drop, set, replicate, length-set, length-append, length-drop, length-replicate, get_or-replicate, get_or-append}
use lib.Seq.{ext_get_or, get_or-drop, get_or-set_same, get_or-set_other, get_or-append-add}
use borrow.Author.Tests.{ltb-true, ltb-false}
use Rattle.rules.specs.Below.{list_below}
use Rattle.rules.proofs.Lists.{below_length, below_get}
use Rattle.bins.specs.Cells.{Outside, Stored}

pub below_or : (a b : ℕ) → (a < b) ⊎ (b ≤ a)
below_or a b = go (ltb a b) refl
  where
    go : (t : Bool) → ltb a b ≡ t → (a < b) ⊎ (b ≤ a)
    go true e = inl (ltb-true a b e)
    go false e = inr (ltb-false a b e)

module _ {from to : ℕ} where
  pub outside-none : {t : List ℕ} → Outside from to t t
  outside-none = record { long = refl; low = λ p l. refl; high = λ p l. refl }

  pub outside_set : {a b : List ℕ} (p v : ℕ) → from ≤ p → p < to → Outside from to a b → Outside from to a (set b p v)
  outside_set {b = b} p v l h o =
      record {
        long = length-set b p v ∙ o.long;
        low = λ q m. get_or-set_other b p q v 0 (λ e. omega arith) ∙ o.low q m;
        high = λ q m. get_or-set_other b p q v 0 (λ e. omega arith) ∙ o.high q m;
      }

  pub outside-then : {a b c : List ℕ} → Outside from to a b → Outside from to b c → Outside from to a c
  outside-then f g =
      record {
        long = g.long ∙ f.long;
        low = λ p l. g.low p l ∙ f.low p l;
        high = λ p l. g.high p l ∙ f.high p l;
      }

  pub outside_wider : {from' to' : ℕ} {a b : List ℕ} → from' ≤ from → to ≤ to' → Outside from to a b → Outside from' to' a b
  outside_wider l h o = record { long = o.long; low = λ p m. o.low p (omega arith); high = λ p m. o.high p (omega arith) }

module _ {f : ℕ → ℕ} {off from to : ℕ} where
  pub stored-none : {t : List ℕ} → to ≤ from → Stored f off from to t t
  stored-none l = record { row = record { is = λ k p m h e. absurd (omega arith) }; rest = outside-none }

  -- one cell more, at the high end
  pub stored-up : {a b : List ℕ} (p v : ℕ) → from ≤ to → p ≡ off + to → p < length b → v ≡ f to → Stored f off from to a b
      → Stored f off from (to + 1) a (set b p v)
  stored-up {b = b} p v order e l same w =
      record {
        row = record { is = λ k q m h d. ⊎_elim (old k q m d) (new k q h d) (below_or k to) };
        rest = outside_set p v (omega arith) (omega arith) (outside_wider (omega arith) (omega arith) w.rest);
      }
    where
      old : (k q : ℕ) → from ≤ k → q ≡ off + k → k < to → get_or (set b p v) q 0 ≡ f k
      old k q m d h = get_or-set_other b p q v 0 (λ c. omega arith) ∙ w.row.is k q m h d

      new : (k q : ℕ) → k < to + 1 → q ≡ off + k → to ≤ k → get_or (set b p v) q 0 ≡ f k
      new k q h d g =
          let at : k ≡ to = omega arith in
          let here : q ≡ p = omega arith in
          rw (at, here) (get_or-set_same b p v 0 l ∙ same)

-- a row that holds the same by another name
pub stored_same : {f g : ℕ → ℕ} {off from to : ℕ} {a b : List ℕ} → ((k : ℕ) → from ≤ k → k < to → f k ≡ g k) → Stored f off from to a b
    → Stored g off from to a b
stored_same h w = record { row = record { is = λ k p l m e. w.row.is k p l m e ∙ h k l m }; rest = w.rest }

-- what stands past the cells that may differ is as it was
pub outside-drop : {n : ℕ} {a b : List ℕ} → Outside 0 n a b → drop n b ≡ drop n a
outside-drop {n} {a} {b} o =
    ext_get_or 0 (drop n b) (drop n a) (length-drop n b ∙ ap (λ x. x - n) o.long ∙ sym (length-drop n a))
    (λ i l. get_or-drop n b i 0 ∙ o.high (n + i) (omega arith) ∙ sym (get_or-drop n a i 0))

-- a list of n written over the front of a table
front : (xs a : List ℕ) (n : ℕ) → length xs ≡ n → n ≤ length a → Outside 0 n a (xs ++ drop n a)
front xs a n e fits =
    record {
      long = length-append xs (drop n a) ∙ omega (arith, length-drop n a);
      low = λ p l. absurd (omega arith);
      high = λ p l.
          let i : p ≡ length xs + (p - n) = omega arith in
          let d : n + (p - n) ≡ p = omega arith in
          ap (λ x. get_or (xs ++ drop n a) x 0) i ∙ get_or-append-add xs (drop n a) (p - n) 0 ∙ get_or-drop n a (p - n) 0 ∙ ap (λ x. get_or a x 0) d;
    }

-- the first n cells set to 0, and then the first to 1
pub one-first : {a b : List ℕ} (n : ℕ) → 0 < n → n ≤ length a → b ≡ replicate n 0 ++ drop n a → Stored (λ p. 1 - p) 0 0 n a (set b 0 1)
one-first {a} {b} n some fits e =
    record { row = record { is = cell }; rest = outside_wider (omega arith) (omega arith) (outside_set 0 1 (omega arith) some zeros) }
  where
    zeros : Outside 0 n a b
    zeros = rw e (front (replicate n 0) a n (length-replicate n 0) fits)

    cell : (k p : ℕ) → 0 ≤ k → k < n → p ≡ 0 + k → get_or (set b 0 1) p 0 ≡ 1 - k
    cell zero p l h q = let d : p ≡ 0 = omega arith in rw d (get_or-set_same b 0 1 0 (omega (arith, zeros.long)))
    cell (suc k) p l h q =
        let past : p < length (replicate {A = ℕ} n 0) = omega (arith, length-replicate {A = ℕ} n 0) in
        get_or-set_other b 0 p 1 0 (λ d. omega arith)
        ∙ rw e (get_or-append (replicate n 0) (drop n a) 0 p past ∙ get_or-replicate n p 0 0 (omega arith) ∙ omega arith)

-- a table whose first n cells were written, as a list
pub stored-list : {f : ℕ → ℕ} {n : ℕ} {a b : List ℕ} → n ≤ length a → Stored f 0 0 n a b → b ≡ list_below n f ++ drop n a
stored-list {f} {n} {a} {b} fits w =
    let made = front (list_below n f) a n (below_length n f) fits in
    ext_get_or 0 b (list_below n f ++ drop n a) (w.rest.long ∙ sym made.long)
    (λ i l.
    elim (dec_lt i n) [
      | yes h ↦
          w.row.is i i (omega arith) h (omega arith)
          ∙ sym (get_or-append (list_below n f) (drop n a) 0 i (omega (arith, below_length n f)) ∙ below_get n f 0 i h)
      | no g ↦ w.rest.high i (omega arith) ∙ sym (made.high i (omega arith))
    ])
