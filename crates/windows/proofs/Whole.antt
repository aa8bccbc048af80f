-- From the first level to the figure: with no components left every pattern works, and with all of them left the pattern with none failed is document
-- 02's memory at the start. Assumes nothing.
use mathlib.Core.Path.{◌≡◌, refl, ap, ◌∙◌}
use mathlib.Core.Bool.{Bool, true, false}
use mathlib.Core.Logic.{inl}
use mathlib.Core.List.{List}
use Prim.Native.Nat.{ℕ, ◌+◌, ◌-◌, ◌*◌, ◌%◌, ◌^◌, ◌≤◌, ◌<◌, min}
use native.Mathlib.Omega.{arith}
use native.Mathlib.Nat.{add-zero, mod-eq_of_lt, sub-zero}
use lib.ListN.{length}
use lib.Pow.{pow_pos, pow_mono}
use Rattle.rules.specs.State.{number_of}
use Rattle.rules.specs.Memory.{live, ended, machine_of, longest, row8}
use Rattle.rules.specs.Figure.{value, figure_of}
use Rattle.rules.specs.Pairs.{pairs_of}
use Rattle.memory.specs.Pattern.{oldest_of, patterned}
use Rattle.memory.proofs.Patterns.{none-lacking, pattern-row8, lives-none}
use Rattle.places.specs.declared.Ends.{Ends}
use Rattle.places.specs.Cells.{Both, Place, cell_at, Kept, Written}
use Rattle.places.specs.Map.{far}
use Rattle.places.proofs.Cells.{both-as, kept_trans, room-kept, workable-kept, side-near}
use Rattle.windows.specs.declared.Level.{Level}
use Rattle.windows.specs.Asked.{Asked, farthest}
use Rattle.windows.specs.Groups.{Sortable, Sorted}
use Rattle.windows.specs.Row.{reach_of, Filling, Levelled}
use Rattle.windows.proofs.Asking.{pairs-good, longest-short, longest-fits, windows}

module _ {u first second : ℕ} {more survival t : List ℕ} (q : Asked u first second more survival t) {oldest : ℕ} (is : oldest ≡ 2 ^ (farthest second more - 2)) where
  bit : oldest ≡ oldest_of (pairs_of first second more)
  unfolding longest
  bit = is

  pub most : oldest ≤ 256
  most = rw bit (pow_mono {i = longest (pairs_of first second more) - 2} {j = 8} (omega (arith, longest-short q)))

  pub filling : Filling (2 * oldest) t
  filling = record { low = omega (arith, most); room = q.list.room }

  pub sortable : {t' : List ℕ} → Kept t t' → Sortable first second more oldest t'
  sortable k = record { windows = windows q; none = none-lacking (length survival) _ (pairs-good q); bit = bit; most = most; room = room-kept k q.list.room }

  -- with no components left
  module _ {t₁ t₂ : List ℕ} (w : Written (λ up m. u) (2 * oldest) 0 t t₁) (s : Sorted first second more oldest t₁ t₂) where
    pub level-none : Levelled u (pairs_of first second more) oldest survival (record { left = 0; from = 0 }) t₂
    unfolding value ended
    level-none =
        let n = length survival in
        let big : oldest ≤ 2 ^ n = rw bit (pow_mono {i = longest (pairs_of first second more) - 2} {j = n} (omega (arith, longest-fits q))) in
        let e : reach_of oldest n 0 ≡ oldest = ap (λ k. min oldest (2 ^ k)) (sub-zero n) ∙ omega arith in
        record {
          bit = bit;
          none = none-lacking (length survival) _ (pairs-good q);
          most = most;
          list = workable-kept (kept_trans w.kept s.kept) q.list;
          side = inl refl;
          lists = rw e s.lists;
          row = record { is = λ up m l v h. cell up m l ∙ w.row.is up m l };
        }
      where
        cell : (up : Bool) (m : ℕ) → m < 2 * oldest → cell_at t₂ up (0 + m) ≡ cell_at t₁ up (0 + m)
        cell false m l = s.places (0 + m) (omega (arith, most))
        cell true m l = s.places (far + (0 + m)) (omega (arith, most))

-- with all of them left
module _ {u first second oldest : ℕ} {more survival t₀ t : List ℕ} {s : Level} (q : Asked u first second more survival t₀)
    (y : Levelled u (pairs_of first second more) oldest survival s t) where
  pub figure-place : Place s.from t
  figure-place = record { low = omega (arith, side-near y.side); room = y.list.room }

  pub figure-there : s.left ≡ length survival → {e : Ends} → Both (λ up. cell_at t up s.from) e → Both (λ up. figure_of (row8 (pairs_of first second more)) up u survival) e
  figure-there all b =
      let ps = pairs_of first second more in
      let n = length survival in
      let some : 0 < oldest = rw y.bit (pow_pos (longest ps - 2)) in
      let z : 0 % oldest ≡ 0 = mod-eq_of_lt some in
      let r : 0 < min oldest (2 ^ (n - s.left)) = omega (arith, pow_pos (n - s.left)) in
      both-as (λ up. (simp add-zero at (y.row.is up 0 (omega arith) (lives-none ps y.none) (rw z r)))
      ∙ ap (λ i. value (machine_of (patterned ps)) up u (number_of survival) i (live 0)) all
      ∙ (pattern-row8 ps n (pairs-good q)).values up u (number_of survival)) b
