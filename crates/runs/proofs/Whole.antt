-- What comes out is document 01's: the memory with no run and no lead is the line's start; the open lead, a component at a time, is the ring's.
-- Assumes nothing.
use mathlib.Core.Path.{◌≡◌, refl, sym, ap, subst, ◌∙◌}
use mathlib.Core.Bool.{Bool}
use mathlib.Core.List.{List}
use Prim.Native.Nat.{ℕ, suc, ◌+◌, ◌-◌, ◌^◌, ◌≤◌, ◌<◌}
use native.Mathlib.Nat.{zero-add}
use native.Mathlib.Numerals.{add-one}
use native.Mathlib.Omega.{arith}
use lib.ListN.{length, get_or}
use Rattle.rules.specs.State.{number_of}
use Rattle.rules.specs.Memory.{machine_of, row4, row5}
use Rattle.rules.specs.Figure.{rounded, mixed, figure_of}
use Rattle.rules.proofs.Dead.{row-value}
use Rattle.memory.specs.declared.run.Lead.{Lead}
use Rattle.memory.specs.declared.run.Run.{Run}
use Rattle.memory.specs.Run.{run, lead, lead_failed, running}
use Rattle.memory.specs.Open.{lead_open}
use Rattle.memory.proofs.Runs.{run-row4, run-row5}
use Rattle.memory.proofs.Moves.{lead-failed-before}
use Rattle.memory.proofs.Opening.{lead-first, lead-start, lead-works, lead-fails}
use Rattle.places.specs.declared.Ends.{Ends}
use Rattle.places.specs.Cells.{Both, Kept, Steady, cell_at, one, value_of}
use Rattle.places.proofs.Cells.{both-as, workable-kept, kept-none, kept_trans}
use Rattle.places.proofs.Values.{Chance, valued-suc, step-steady, step-mixed}
use Rattle.runs.specs.Runs.{Asked, Fillable, Filled}

-- the memory by another name
pub filled-as : {u k upto : ℕ} {m m' : Run} {survival t₀ t : List ℕ} → m ≡ m' → Filled u k m upto survival t₀ t → Filled u k m' upto survival t₀ t
filled-as {u} {k} {upto} {survival = survival} {t₀} {t} e = subst (λ m. Filled u k m upto survival t₀ t) e

-- what stands where a memory is filled in
pub filled_at : {u k t upto : ℕ} {survival t₀ t₁ : List ℕ} → Filled u k (run t 0) upto survival t₀ t₁ → {e : Ends} → Both (λ up. cell_at t₁ up upto) e
    → Both (λ up. value_of u (running k) survival (run t 0) up upto) e
filled_at {upto = upto} f = both-as (λ up. rw (zero-add upto) at (f.row.is up upto (omega arith)))

module _ {u k : ℕ} {survival t₀ : List ℕ} (y : Asked u k survival t₀) where
  abbrev n : ℕ
  n = length survival

  pub line-is : {e : Ends} → Both (λ up. value_of u (running k) survival (run 0 0) up n) e → Both (λ up. figure_of (row4 k) up u survival) e
  line-is = both-as (λ up. (run-row4 k y.some n).values up u (number_of survival))

  -- the value of the open lead with i components left
  abbrev opened : (up : Bool) (i : ℕ) → ℕ
  opened up i = value_of u (machine_of (row5 k)) survival (lead_open k n i) up i

  open_more : (up : Bool) (i : ℕ) → i < n → n ≤ i + k
      → rounded up u (mixed u (get_or survival i 0) (value_of u (running k) survival (run (n - suc i) 0) up i) (opened up i)) ≡ opened up (i + 1)
  open_more up i left near =
      rw (add-one i)
      (sym (valued-suc u (machine_of (row5 k)) survival i (lead_open k n (suc i)) up
      ∙ rw (lead-works k n i left near, lead-fails k n i left near, (run-row5 k y.some i (n - suc i)).values up u (number_of survival))))

  -- the ring on the way: the lead, and its value
  pub record Leading (size i : ℕ) (m : Lead) (ends : Ends) (t : List ℕ) : Type 0 where
    pub all : size ≡ n
    pub is : m ≡ lead (n - i)
    pub most : i ≤ n
    pub near : n ≤ i + k
    pub value : Both (λ up. opened up i) ends
    pub kept : Kept t₀ t

  pub leading-first : {e : Ends} → Both (λ up. 0) e → Leading n (n - k) (lead k) e t₀
  leading-first b = record {
    all = refl;
    is = ap lead (omega (arith, y.fits));
    most = omega arith;
    near = omega arith;
    value = both-as (λ up. sym (ap (λ m. value_of u (machine_of (row5 k)) survival m up (n - k)) (lead-first k n y.fits) ∙ row-value (row5 k) up u (number_of survival) y.list.whole (n - k))) b;
    kept = kept-none;
  }

  pub leading-last : {size i : ℕ} {m : Lead} {e : Ends} {t : List ℕ} → size ≤ i → Leading size i m e t → Both (λ up. figure_of (row5 k) up u survival) e
  leading-last {i = i} l v =
      let e : i ≡ n = omega (arith, v.most, v.all) in
      both-as (λ up. ap (λ m. value_of u (machine_of (row5 k)) survival m up n) (lead-start k n y.some)) (rw e at v.value)

  module _ {size i : ℕ} {m : Lead} {ends : Ends} {t : List ℕ} (v : Leading size i m ends t) (l : i < size) where
    pub leading-some : 0 < m.lead
    leading-some = rw v.is (omega (arith, v.all))

    module _ {m' : Lead} (before : m' ≡ lead (m.lead - 1)) where
      pub earlier : m' ≡ lead (n - suc i)
      earlier = before ∙ rw v.is (ap lead (omega arith))

      -- a failed component takes it to the lead at hand
      pub leading-small : m'.lead + 1 < 2 ^ 64
      leading-small = rw (before, v.is) (omega (arith, y.list.size))

      pub leading-failed : lead_failed m' ≡ m
      leading-failed = rw before (lead-failed-before m leading-some)

      pub leading-fillable : Fillable u k (run m'.lead 0) i survival t
      leading-fillable = record {
        free = record { none = refl; alive = rw earlier (omega (arith, v.near, v.all)) };
        size = v.most;
        list = workable-kept v.kept y.list;
      }

      module _ {t' : List ℕ} (f : Filled u k (run m'.lead 0) i survival t t') where
        module _ (p q : ℕ) (is : Chance u survival i p q) {none : Ends} (b : Both (λ up. cell_at t' up i) none) where
          known : Both (λ up. value_of u (running k) survival (run (n - suc i) 0) up i) none
          known = rw earlier at (filled_at f b)

          pub leading-steady : Steady u p q none ends
          leading-steady = step-steady y.list.whole (running k) (machine_of (row5 k)) survival y.list.units i p q is _ _ known v.value

          pub leading-more : {r : Ends} → Both (λ up. rounded up u (mixed u p (one up none) (one up ends))) r → Leading size (i + 1) m' r t'
          leading-more s = record {
            all = v.all;
            is = earlier ∙ ap lead (omega arith);
            most = omega (arith, v.all);
            near = omega (arith, v.near);
            value =
                both-as (λ up. open_more up i (omega (arith, v.all)) v.near)
                (step-mixed y.list.whole (running k) (machine_of (row5 k)) survival y.list.units i p q is _ _ known v.value s);
            kept = kept_trans v.kept f.kept;
          }
