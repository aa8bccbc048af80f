-- The values of runs of failed components, kinds 4 and 5: a run out of the memory with no run and the run gone on; memories that all that is left cannot
-- bring to k have the unit for their value; a run that can come to k ends at 0, dead or past the last component. By the definition's own step. Assumes nothing.
use mathlib.Core.Path.{◌≡◌, refl, sym, ap, ◌∙◌}
use mathlib.Core.Bool.{Bool}
use mathlib.Core.List.{List}
use Prim.Native.Nat.{ℕ, zero, suc, ◌+◌, ◌-◌, ◌≤◌, ◌<◌, min}
use native.Mathlib.Decide.{dec_lt}
use native.Mathlib.Nat.{zero-add}
use native.Mathlib.Numerals.{add-one}
use native.Mathlib.Omega.{arith}
use lib.ListN.{get_or}
use borrow.Author.Tests.{lt-ltb, le-ltb, le-leb}
use Rattle.rules.specs.Figure.{rounded, mixed, value}
use Rattle.rules.proofs.Rounding.{unchanged}
use Rattle.memory.specs.declared.run.Run.{Run}
use Rattle.memory.specs.Run.{run, running}
use Rattle.memory.proofs.Runs.{run-works, run-fails, run_ends, run-dead}
use Rattle.places.specs.declared.Ends.{Ends}
use Rattle.places.specs.Cells.{Both, Put, Kept, Written, cell_at, one, value_of, Steady}
use Rattle.places.proofs.Cells.{both-as, row_as, row_more, workable-kept, kept-none, kept_trans}
use Rattle.places.proofs.Values.{Chance, valued-dead, valued-suc, step-steady, step-mixed}
use Rattle.runs.specs.Runs.{Free, Falling, Fillable, Filled}

module _ {u : ℕ} (some : 0 < u) (k : ℕ) (survival : List ℕ) (t : ℕ) (up : Bool) where
  -- a run before a component
  pub run-before : (i s : ℕ) → s < k → value_of u (running k) survival (run t s) up (i + 1)
      ≡ rounded up u (mixed u (get_or survival i 0) (value_of u (running k) survival (run t 0) up i) (value_of u (running k) survival (run t (s + 1)) up i))
  run-before i s alive =
      ap (value_of u (running k) survival (run t s) up) (add-one i)
      ∙ valued-suc u (running k) survival i (run t s) up
      ∙ rw (run-works k (suc i) (run t s) alive, run-fails k (suc i) (run t s) alive)

  -- a memory that what is left cannot bring to k
  pub decided : ((i : ℕ) → get_or survival i 0 ≤ u) → (i s : ℕ) → t + s + i < k → value_of u (running k) survival (run t s) up i ≡ u
  unfolding value
  decided units zero s l = rw (run_ends k 0 (run t s) (omega arith), lt-ltb (t + s) k (omega arith))
  decided units (suc i) s l =
      ap (value_of u (running k) survival (run t s) up) (sym (add-one i))
      ∙ run-before i s (omega arith)
      ∙ rw (decided units i 0 (omega arith), decided units i (s + 1) (omega arith)) (unchanged up u (get_or survival i 0) u some (units i))

  -- a run that is dead where it ends, or past the last component and too long with its lead
  pub fallen : (upto : ℕ) → k ≤ upto + t → value_of u (running k) survival (run t (upto - (upto - k))) up (upto - k) ≡ 0
  unfolding value
  fallen upto far =
      elim (dec_lt upto k) [
        | yes l ↦
            let a : upto - k ≡ 0 = omega arith in
            let b : upto - 0 ≡ upto = omega arith in
            rw (a, b, run_ends k 0 (run t upto) l, le-ltb (t + upto) k (omega arith))
        | no h ↦ valued-dead some (running k) survival (run-dead k) (upto - k) (run t (upto - (upto - k))) (le-leb k _ (omega arith)) up
      ]

-- a memory with no run, by its lead
pub free-is : {k : ℕ} {m : Run} → Free k m → m ≡ run m.lead 0
free-is {m = m} f = ap (run m.lead) f.none

-- a run taken back to i components left: the memory at hand, and its value
pub record Back (u k t upto : ℕ) (survival : List ℕ) (i : ℕ) (m : Run) (ends : Ends) : Type 0 where
  pub most : i ≤ upto
  pub near : upto ≤ i + k
  pub is : m ≡ run t (upto - i)
  pub value : Both (λ up. value_of u (running k) survival m up i) ends

module _ {u k : ℕ} {free : Run} {upto : ℕ} {survival t : List ℕ} (y : Falling u k free upto survival t) where
  pub back-first : {ends : Ends} → Both (λ up. 0) ends → Back u k free.lead upto survival (upto - k) (run free.lead (upto - (upto - k))) ends
  back-first b = record {
    most = omega arith;
    near = omega arith;
    is = refl;
    value = both-as (λ up. sym (fallen y.list.whole k survival free.lead up upto y.far)) b;
  }

  -- a component more
  module _ (i : ℕ) (l : i < upto) {m : Run} {ends : Ends} (v : Back u k free.lead upto survival i m ends) where
    at-hand : Both (λ up. value_of u (running k) survival (run free.lead (upto - (i + 1) + 1)) up i) ends
    at-hand = let e : upto - i ≡ upto - (i + 1) + 1 = omega arith in rw (v.is, e) at v.value

    module _ (p q : ℕ) (is : Chance u survival i p q) {none : Ends} (n : Both (λ up. cell_at t up i) none) where
      known : Both (λ up. value_of u (running k) survival (run free.lead 0) up i) none
      known = both-as (λ up. rw (zero-add i, free-is y.free) at (y.row.is up i l)) n

      pub back-steady : Steady u p q none ends
      back-steady = step-steady y.list.whole (running k) (running k) survival y.list.units i p q is _ _ known at-hand

      pub back_more : {m' : Run} {r : Ends} → m' ≡ run m.lead (m.run - 1) → Both (λ up. rounded up u (mixed u p (one up none) (one up ends))) r
          → Back u k free.lead upto survival (i + 1) m' r
      back_more {m'} before b = record {
        most = omega arith;
        near = omega (arith, v.near);
        is = earlier;
        value =
            rw earlier
            (both-as (λ up. sym (run-before y.list.whole k survival free.lead up i (upto - (i + 1)) (omega (arith, v.near))))
            (step-mixed y.list.whole (running k) (running k) survival y.list.units i p q is _ _ known at-hand b));
      }
        where
          earlier : m' ≡ run free.lead (upto - (i + 1))
          earlier = let e : upto - i - 1 ≡ upto - (i + 1) = omega arith in before ∙ rw (v.is, e)

-- a memory with no run filled in: from what is decided on, then a component more
module _ {u k : ℕ} {m : Run} {upto : ℕ} {survival t : List ℕ} (y : Fillable u k m upto survival t) where
  pub filled-first : {t' : List ℕ} → Written (λ up i. u) (suc (min upto (k - 1 - m.lead))) 0 t t' → Filled u k m (min upto (k - 1 - m.lead)) survival t' t'
  filled-first w = record {
    row =
        row_as
        (λ up i l. sym (ap (λ x. value_of u (running k) survival x up i) (free-is y.free) ∙ decided y.list.whole k survival m.lead up y.list.units i 0 (omega (arith, y.free.alive))))
        w.row;
    kept = kept-none;
  }

  pub fillable-kept : {t' : List ℕ} → Kept t t' → Fillable u k m upto survival t'
  fillable-kept k = record { free = y.free; size = y.size; list = workable-kept k y.list }

  module _ {left : ℕ} {t' : List ℕ} (v : Filled u k m left survival t t') (l : left < upto) where
    pub filled_more : {t'' : List ℕ} {e : Ends} → Both (λ up. value_of u (running k) survival m up (left + 1)) e → Put (left + 1) e t' t'' → Filled u k m (left + 1) survival t t''
    filled_more b p =
        let a : suc (left + 1) ≡ suc left + 1 = omega arith in
        let c : left + 1 ≡ suc left = omega arith in
        record { row = rw a (row_more p (omega arith) (omega (arith, y.size, y.list.size)) (rw c at b) v.row); kept = kept_trans v.kept p.kept }
