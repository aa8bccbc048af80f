-- The bins in the working table: what a row is made of, what fits 64 bits, that rows stay, and what a ring's entry comes to. Assumes nothing.
use mathlib.Core.Path.{◌≡◌, refl, sym, ap, ◌∙◌}
use mathlib.Core.List.{List, ◌++◌}
use Prim.Native.Nat.{ℕ, zero, suc, ◌+◌, ◌-◌, ◌*◌, ◌^◌, ◌≤◌, ◌<◌, min}
use native.Mathlib.Decide.{dec_lt}
use native.Mathlib.Omega.{arith}
use lib.ListN.{get_or, set, drop, replicate}
use borrow.Author.Tests.{lt-ltb, le-ltb}
use Rattle.rules.specs.Below.{sum_below}
use Rattle.rules.specs.Memory.{live, row4}
use Rattle.rules.proofs.Sums.{sum-add, sum_same}
use Rattle.pascal.specs.Ways.{ways_of}
use Rattle.pascal.proofs.Triangle.{ways-sum, ways-fit}
use Rattle.bins.specs.From.{bins, shift}
use Rattle.bins.specs.Cells.{Stored}
use Rattle.bins.specs.Bins.{Sized, Bins, Made, gone_at, term, around_at}
use Rattle.places.specs.Map.{bin_row}
use Rattle.bins.proofs.Cells.{outside_wider, one-first}
use Rattle.bins.proofs.From.{from_le}
use Rattle.bins.proofs.InARow.{shift-at, shift_past, bins-first, bins-slide, sum_past}

-- ---- what fits

bins-le : (k b j : ℕ) → bins k b (suc j) ≤ ways_of (b + j) (suc j)
unfolding bins
bins-le k zero j = omega arith
bins-le k (suc v) j = let a : suc v + j ≡ v + suc j = omega arith in rw a (from_le (row4 k) (live 0) (v + suc j) (suc j))

slide-fits : (k b j : ℕ) → 0 < k → b + j ≤ 64 → bins k b j + shift (bins k (suc b)) 1 j < 2 ^ 64
unfolding bins shift
slide-fits k b zero some h = omega (arith, bins-first k some b)
slide-fits k b (suc j) some h =
    omega (arith, bins-le k b j, from_le (row4 k) (live 0) (b + j) j, ways-sum (b + j) j, ways-fit (suc (b + j)) (suc j) (omega arith))

-- ---- rows of the table

pub rows-fewer : {k n rows fewer : ℕ} {t : List ℕ} → fewer ≤ rows → Bins k n rows t → Bins k n fewer t
rows-fewer l h = record { is = λ b j p m. h.is b j p (omega arith) }

-- row b + 1 on the way, made up to column j
module _ {k n b off : ℕ} (j : ℕ) {before t : List ℕ} (s : Sized k n before) (h : Bins k n (suc b) before) (o : off ≡ b * bin_row)
    (w : Stored (bins k (suc b)) (off + bin_row) 0 j before t) (l : b + j ≤ n) where
  -- row b is as it was
  row_kept : (i p : ℕ) → i ≤ j → p ≡ off + i → get_or t p 0 ≡ bins k b i
  row_kept i p m e = w.rest.low p (omega arith) ∙ h.is b i p (omega arith) (omega arith) (omega arith)

  lets_go : gone_at k off j t ≡ shift (bins k b) k j
  unfolding gone_at
  lets_go =
      elim (dec_lt j k) [
        | yes m ↦ rw (lt-ltb j k m) (sym (shift_past (bins k b) k j m))
        | no g ↦ rw (le-ltb j k (omega arith)) (row_kept (j - k) _ (omega arith) refl ∙ sym (shift-at (bins k b) k j (omega arith)))
      ]

  -- the next number of the row, and that its sum fits before the term goes
  pub slid : {held : ℕ} → held ≡ shift (bins k (suc b)) 1 j
      → (held + get_or t (off + j) 0 ≡ bins k (suc b) j + gone_at k off j t) × (held + get_or t (off + j) 0 < 2 ^ 64)
  slid e =
      let c = row_kept j _ (omega arith) refl in
      (omega (arith, c, bins-slide k s.some b j, lets_go), omega (arith, c, slide-fits k b j s.some (omega arith)))

-- a row more, as far as its columns count
pub rows_more : {k n rows count off : ℕ} {before after : List ℕ} → Sized k n before → Bins k n rows before
    → Stored (bins k rows) off 0 count before after → off ≡ rows * bin_row → rows ≤ n + 1 → n + 2 ≤ rows + count → count ≤ bin_row
    → Made k n (suc rows) before after
rows_more {rows = rows} s h w o low wide narrow =
    record {
      filled = record {
        is = λ r j p l m q.
            elim (dec_lt r rows) [
              | yes old ↦ w.rest.low p (omega arith) ∙ h.is r j p old m q
              | no g ↦ let a : r ≡ rows = omega arith in rw a (w.row.is j p (omega arith) (omega arith) (omega arith))
            ];
      };
      rest = outside_wider (omega arith) (omega arith) w.rest;
    }

-- no bin
pub first-row : {k n : ℕ} {a b : List ℕ} → Sized k n a → b ≡ replicate bin_row 0 ++ drop bin_row a → Made k n 1 a (set b 0 1)
unfolding bins
first-row s e =
    rows_more s (record { is = λ r j p l. absurd (omega arith) })
    (one-first bin_row (omega arith) (omega arith) e) refl (omega arith) (omega arith) (omega arith)

-- ---- a ring's sum

-- a part of a sum is no more than the whole
sum-le : (a b : ℕ) (f : ℕ → ℕ) → a ≤ b → sum_below a f ≤ sum_below b f
sum-le a b f l =
    let o : a + (b - a) ≡ b = omega arith in
    omega (arith, rw o at (sum-add a (b - a) f))

-- a sum that fits with one term more
pub sum_step : (f : ℕ → ℕ) (most m : ℕ) {s : ℕ} → sum_below most f < 2 ^ 64 → m < most → s ≡ sum_below m f
    → (s + f m ≡ sum_below (m + 1) f) × (s + f m < 2 ^ 64)
unfolding sum_below
sum_step f most m fits l e =
    let o : m + 1 ≡ suc m = omega arith in
    (rw (o, e), omega (arith, sum-le (suc m) most f (omega arith)))

pub around-is : {k n rows : ℕ} {t : List ℕ} (v j : ℕ) → Bins k n rows t → v < rows → v + j ≤ n + 1
    → around_at k (v * bin_row + j) j t ≡ sum_below k (λ m. suc m * shift (bins k v) m j)
around-is {k} {n} {rows} {t} v j h l m =
    sum_same (min k (suc j)) (term (v * bin_row + j) t) _ (λ u g. ap (λ x. suc u * x) (cell u (omega arith)))
    ∙ sym
    (elim (dec_lt (suc j) k) [
      | yes g ↦ let a : min k (suc j) ≡ suc j = omega arith in rw a (sum_past (suc j) k _ (omega arith) (λ u p q. past u p))
      | no g ↦ let a : min k (suc j) ≡ k = omega arith in rw a
    ])
  where
    cell : (u : ℕ) → u ≤ j → get_or t (v * bin_row + j - u) 0 ≡ shift (bins k v) u j
    cell u g = h.is v (j - u) _ l (omega arith) (omega arith) ∙ sym (shift-at (bins k v) u j g)

    past : (u : ℕ) → suc j ≤ u → suc u * shift (bins k v) u j ≡ 0
    past u p = rw (shift_past (bins k v) u j p) (omega arith)
