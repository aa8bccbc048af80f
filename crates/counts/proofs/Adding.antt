-- Kind 2's sums in the working table. States that weigh less than c are those read from the sum k - c; a component more adds to each row the row below, its
-- weight further on. Sums that no state has, or that are dead, are passed over. Assumes nothing.
use mathlib.Core.Path.{◌≡◌, refl, sym, ap, ◌∙◌}
use mathlib.Core.Logic.{◌⊎◌, inl, inr, ⊎_elim}
use mathlib.Core.List.{List}
use Prim.Native.Nat.{ℕ, zero, suc, ◌+◌, ◌-◌, ◌*◌, ◌^◌, ◌≤◌, ◌<◌, min}
use native.Mathlib.Numerals.{add-one}
use native.Mathlib.Decide.{dec_lt}
use native.Mathlib.Omega.{arith}
use lib.ListN.{length, get_or, drop}
use lib.Seq.{drop-cons}
use borrow.Author.Tests.{lt-ltb, le-ltb}
use Rattle.rules.specs.Below.{sum_below, total}
use Rattle.rules.specs.State.{number_of}
use Rattle.rules.specs.Memory.{Row, Memory, live, dead, below, moved, ended, row1}
use Rattle.rules.specs.Refusal.{most, heaviest, cells}
use Rattle.rules.proofs.Sums.{sum_same}
use Rattle.bins.specs.From.{from, shift}
use Rattle.bins.specs.Cells.{Stored, Outside}
use Rattle.counts.specs.Sums.{lighter, cell_at, Sums, Weighed, Addable, Turnable, Turned}
use Rattle.bins.proofs.Cells.{below_or, outside-then, outside_wider}
use Rattle.bins.proofs.From.{from_end, from-above, from_zero, from_suc, from-fits}
use Rattle.bins.proofs.InARow.{shift-at, shift_past, sum_past}

-- what the components from i on add up to
pub total-drop : (i : ℕ) (xs : List ℕ) → i < length xs → total (drop i xs) ≡ get_or xs i 0 + total (drop (i + 1) xs)
unfolding total
total-drop i xs l = rw (add-one i, drop-cons xs i 0 l)

-- ---- sums of columns

-- a row and, w further on, the row below
sum_both : (c w : ℕ) (f g : ℕ → ℕ) → sum_below c (λ s. f s + shift g w s) ≡ sum_below c f + sum_below (c - w) g
unfolding sum_below
sum_both zero w f g = let e : 0 - w ≡ 0 = omega arith in rw e
sum_both (suc c) w f g =
    let next = sum_both c w f g in
    elim (dec_lt c w) [
      | yes l ↦ let o : suc c - w ≡ c - w = omega arith in rw o (omega (arith, next, shift_past g w c l))
      | no h ↦ let o : suc c - w ≡ suc (c - w) = omega arith in rw o (omega (arith, next, shift-at g w c (omega arith)))
    ]

-- ---- counts by weight

stays : (m : Memory ℕ) → moved (λ s. live s) m ≡ m
unfolding moved
stays (live s) = refl
stays dead = refl

-- a failed component of weight w leaves less to k
leaves : (k c w : ℕ) → c ≤ k → moved (λ s. below (s + w) k (s + w)) (below (k - c) k (k - c)) ≡ below (k - (c - w)) k (k - (c - w))
unfolding moved
leaves k zero w l =
    let a : 0 - w ≡ 0 = omega arith in
    rw (a, le-ltb (k - 0) k (omega arith))
leaves k (suc c) w l =
    rw (lt-ltb (k - suc c) k (omega arith))
    (elim (dec_lt (suc c) w) [
      | yes h ↦ rw (le-ltb (k - suc c + w) k (omega arith), le-ltb (k - (suc c - w)) k (omega arith))
      | no h ↦ let a : k - suc c + w ≡ k - (suc c - w) = omega arith in rw a
    ])

module _ (k : ℕ) (weights : List ℕ) where
  abbrev R : Row ℕ
  R = row1 k (number_of weights)

  lighter-zero : (i c : ℕ) → lighter k weights (suc i) 0 c ≡ lighter k weights i 0 c
  lighter-zero i c = from_zero R (below (k - c) k (k - c)) i ∙ ap (λ m. from R m i 0) (stays (below (k - c) k (k - c)))

  lighter-suc : (i j c : ℕ) → c ≤ k → lighter k weights (suc i) (suc j) c ≡ lighter k weights i (suc j) c + lighter k weights i j (c - get_or weights i 0)
  unfolding number_of
  lighter-suc i j c l =
      from_suc R (below (k - c) k (k - c)) i j
      ∙ ap (λ m. from R m i (suc j) + from R (moved (λ s. below (s + get_or weights i 0) k (s + get_or weights i 0)) (below (k - c) k (k - c))) i j)
      (stays (below (k - c) k (k - c)))
      ∙ ap (λ m. lighter k weights i (suc j) c + from R m i j) (leaves k c (get_or weights i 0) l)

  lighter-above : (i j c : ℕ) → i < j → lighter k weights i j c ≡ 0
  lighter-above i j c l = from-above R (below (k - c) k (k - c)) i j l

  -- none read: one state, which weighs nothing
  lighter-none : lighter k weights 0 0 0 ≡ 0
  unfolding ended
  lighter-none = rw (le-ltb (k - 0) k (omega arith)) (from_end R dead)

  lighter-one : (c : ℕ) → suc c ≤ k → lighter k weights 0 0 (suc c) ≡ 1
  unfolding ended
  lighter-one c l = rw (lt-ltb (k - suc c) k (omega arith)) (from_end R (live (k - suc c)))

-- ---- rows, from the highest

-- both cells of a sum are still as they were
pub add-cell : {from to count : ℕ} {f : ℕ → ℕ} {before t : List ℕ} (s : ℕ) → Addable from to count before → s < count → Stored f to 0 s before t
    → get_or t (to + s) 0 + get_or t (from + s) 0 ≡ get_or before (to + s) 0 + get_or before (from + s) 0
add-cell {from} {to} s able l w = rw (w.rest.high (to + s) (omega arith), w.rest.low (from + s) (omega arith))

module _ {w count rows low : ℕ} {before t : List ℕ} (able : Turnable w count rows before) (o : Turned w count (suc low) rows before t) (l : low < rows) where
  -- this row and the row below are as they were
  old-cells : (s : ℕ) → s < count
      → (get_or t (low * heaviest + heaviest + w + s) 0 ≡ cell_at before (suc low) (w + s)) × (get_or t (low * heaviest + s) 0 ≡ cell_at before low s)
  old-cells s h =
      let a : low * heaviest + heaviest + w + s ≡ suc low * heaviest + (w + s) = omega arith in
      (rw a (o.rest.low _ (omega arith)), o.rest.low _ (omega arith))

  module _ {t' : List ℕ}
      (a : Stored (λ s. get_or t (low * heaviest + heaviest + w + s) 0 + get_or t (low * heaviest + s) 0) (low * heaviest + heaviest + w) 0 count t t') where
    pub turned-row : Turned w count low rows before t'
    turned-row =
        record {
          new = λ j s g h c. ⊎_elim (here j s g c) (above j s h c) (below_or j (suc low));
          kept = λ j s h e. same j s h e ∙ o.kept j s h e;
          rest = outside-then (outside_wider (omega arith) (omega arith) o.rest) (outside_wider (omega arith) (omega arith) a.rest);
        }
      where
        here : (j s : ℕ) → low ≤ j → s < count → j < suc low → cell_at t' (suc j) (w + s) ≡ cell_at before (suc j) (w + s) + cell_at before j s
        here j s g c h =
            let e : j ≡ low = omega arith in
            rw e (a.row.is s _ (omega arith) c (omega arith) ∙ rw ((old-cells s c).0, (old-cells s c).1))

        above : (j s : ℕ) → j < rows → s < count → suc low ≤ j → cell_at t' (suc j) (w + s) ≡ cell_at before (suc j) (w + s) + cell_at before j s
        above j s h c g = a.rest.high _ (omega arith) ∙ o.new j s g h c

        same : (j s : ℕ) → s < heaviest → (s < w) ⊎ (w + count ≤ s) → cell_at t' j s ≡ cell_at t j s
        same j s h (inl e) =
            ⊎_elim (λ (c : j < suc (suc low)). a.rest.low _ (omega arith)) (λ c. a.rest.high _ (omega arith)) (below_or j (suc (suc low)))
        same j s h (inr e) = ⊎_elim (λ (c : j < suc low). a.rest.low _ (omega arith)) (λ c. a.rest.high _ (omega arith)) (below_or j (suc low))

-- ---- none read

pub weighed-same : {k : ℕ} {weights a b : List ℕ} → length b ≡ length a → Weighed k weights a → Weighed k weights b
weighed-same e s = record { some = s.some; small = s.small; most = s.most; light = s.light; long = omega arith }

module _ {k : ℕ} {weights t t' : List ℕ} (able : Weighed k weights t) (w : Stored (λ p. 1 - p) 0 0 cells t t') where
  first_cell : (j s : ℕ) → j ≤ most → s < heaviest → cell_at t' j s ≡ 1 - (j * heaviest + s)
  first_cell j s m h = w.row.is (j * heaviest + s) _ (omega arith) (omega arith) (omega arith)

  pub none_read : Sums k weights 0 0 t'
  unfolding sum_below
  none_read = record { is = go; none = λ j s m h l. first_cell j s m h ∙ omega arith }
    where
      go : (j c : ℕ) → j ≤ most → c ≤ k → sum_below c (cell_at t' j) ≡ lighter k weights 0 j c
      go zero zero m l = sym (lighter-none k weights)
      go zero (suc c) m l =
          sum_past 1 (suc c) (cell_at t' 0) (omega arith) (λ s h g. first_cell 0 s m (omega arith) ∙ omega arith)
          ∙ omega (arith, first_cell 0 0 m (omega arith), lighter-one k weights c l)
      go (suc j) c m l =
          sum_past 0 c (cell_at t' (suc j)) (omega arith) (λ s h g. first_cell (suc j) s m (omega arith) ∙ omega arith)
          ∙ sym (lighter-above k weights 0 (suc j) c (omega arith))

-- ---- one component more

module _ {k i w reach count : ℕ} {weights t : List ℕ} (able : Weighed k weights t) (h : Sums k weights i reach t) (l : i < length weights)
    (weight : w ≡ get_or weights i 0) (counts : count ≡ min (reach + 1) (k - w)) (light : w ≤ heaviest) where
  abbrev both : (j s : ℕ) → ℕ
  both j s = cell_at t (suc j) s + shift (cell_at t j) w s

  both-sum : (j c : ℕ) → j ≤ i → c ≤ k → sum_below c (both j) ≡ lighter k weights (suc i) (suc j) c
  both-sum j c m d =
      sum_both c w (cell_at t (suc j)) (cell_at t j)
      ∙ rw (h.is (suc j) c (omega arith) d, h.is j (c - w) (omega arith) (omega arith), weight) (sym (lighter-suc k weights i j c d))

  both-fits : (j s : ℕ) → j ≤ i → s < k → both j s < 2 ^ 64
  unfolding sum_below
  both-fits j s m d =
      omega (arith, both-sum j (suc s) m d, from-fits (row1 k (number_of weights)) (below (k - suc s) k (k - suc s)) (suc i) (suc j) (omega arith))

  pub sums-turnable : Turnable w count (i + 1) t
  sums-turnable =
      record {
        row = omega arith;
        most = omega arith;
        long = able.long;
        fits = λ j s m c.
            let a : w + s - w ≡ s = omega arith in
            omega (arith, both-fits j (w + s) (omega arith) (omega arith), rw a at (shift-at (cell_at t j) w (w + s) (omega arith)));
      }

  module _ {t' : List ℕ} (o : Turned w count 0 (i + 1) t t') where
    turned-cell : (j s : ℕ) → j ≤ i → s < k → cell_at t' (suc j) s ≡ both j s
    turned-cell j s m d =
        elim (dec_lt s w) [
          | yes e ↦ omega (arith, o.kept (suc j) s (omega arith) (inl e), shift_past (cell_at t j) w s e)
          | no e ↦
              let lower = shift-at (cell_at t j) w s (omega arith) in
              elim (dec_lt (s - w) count) [
                | yes c ↦
                    let a : w + (s - w) ≡ s = omega arith in
                    omega (arith, rw a at (o.new j (s - w) (omega arith) (omega arith) c), lower)
                | no c ↦
                    let none = h.none j (s - w) (omega arith) (omega arith) (omega arith) in
                    omega (arith, o.kept (suc j) s (omega arith) (inr (omega arith)), lower, none)
              ]
        ]

    turned-sum : (j c : ℕ) → j ≤ most → c ≤ k → sum_below c (cell_at t' j) ≡ lighter k weights (suc i) j c
    turned-sum zero c m d =
        sum_same c _ _ (λ s e. o.rest.low (0 * heaviest + s) (omega arith)) ∙ h.is 0 c m d ∙ sym (lighter-zero k weights i c)
    turned-sum (suc j) c m d =
        elim (dec_lt j (i + 1)) [
          | yes e ↦ sum_same c _ _ (λ s g. turned-cell j s (omega arith) (omega arith)) ∙ both-sum j c (omega arith) d
          | no e ↦
              sum_same c _ _ (λ s g. o.rest.high (suc j * heaviest + s) (omega arith))
              ∙ h.is (suc j) c m d
              ∙ lighter-above k weights i (suc j) c (omega arith)
              ∙ sym (lighter-above k weights (suc i) (suc j) c (omega arith))
        ]

    pub sums-turned : Sums k weights (i + 1) (reach + w) t'
    sums-turned =
        let e : i + 1 ≡ suc i = omega arith in
        record {
          is = λ j c m d. rw e (turned-sum j c m d);
          none = λ j s m d g. o.kept j s d (inr (omega arith)) ∙ h.none j s m d (omega arith);
        }

    pub turned-outside : Outside 0 cells t t'
    turned-outside = outside_wider (omega arith) (omega arith) o.rest
