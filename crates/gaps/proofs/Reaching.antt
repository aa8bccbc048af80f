-- The memory that owes nothing as the table holds it: known with fewer components left it is known with one more, by the debt of a failed component, which
-- is paid or cut short. Assumes nothing.
use mathlib.Core.Path.{◌≡◌, refl, sym, ap, ◌∙◌}
use mathlib.Core.Bool.{Bool, cond}
use mathlib.Core.List.{List}
use Prim.Native.Nat.{ℕ, suc, ◌+◌, ◌-◌, ◌≤◌, ◌<◌}
use native.Mathlib.Nat.{zero-add}
use native.Mathlib.Omega.{arith}
use lib.Dec.{leb}
use lib.ListN.{length, get_or}
use Rattle.rules.specs.Figure.{rounded, mixed}
use Rattle.rules.specs.Refusal.{most}
use Rattle.memory.specs.declared.owed.Owed.{Owed}
use Rattle.memory.specs.Owed.{owed, owed_failed, owed_works, owing}
use Rattle.places.specs.declared.Ends.{Ends}
use Rattle.places.specs.Cells.{Both, Put, Kept, cell_at, one, value_of}
use Rattle.places.specs.Map.{half}
use Rattle.places.proofs.Cells.{both_at, both-as, row-none, row_other, row_more, workable-kept, kept_trans}
use Rattle.places.proofs.Values.{valued-within}
use Rattle.gaps.specs.declared.Known.{Known}
use Rattle.gaps.specs.Gaps.{Asked, Settled, Holds, Passable, Begun, Reached, Stepping}
use Rattle.gaps.proofs.Sharing.{shared-put}
use Rattle.gaps.proofs.Paying.{end-valued, free-before, cut}

-- a place of the first half written
module _ {u r : ℕ} {survival t t' : List ℕ} {at : ℕ} {e : Ends} (p : Put at e t t') (low : at < half) where
  asked-put : Asked u r survival t → Asked u r survival t'
  asked-put y = record { two = y.two; list = workable-kept p.kept y.list }

  settled-put : length survival ≤ most → Settled u r survival t → Settled u r survival t'
  settled-put small s = record {
    shared = shared-put p (omega arith) small s.shared;
    row = row_other p (omega arith) (λ k l q. omega arith) s.row;
  }

module _ {u r x left : ℕ} {survival t : List ℕ} (y : Holds u r x left survival t) where
  pub holds_at : (i : ℕ) → i ≤ left → {e : Ends} → Both (λ up. cell_at t up i) e → Both (λ up. value_of u (owing r) survival (owed x 0) up i) e
  holds_at i l = both-as (λ up. rw (zero-add i) at (y.row.is up i (omega arith)))

  pub holds-less : {less : ℕ} → less ≤ left → Holds u r x less survival t
  holds-less l = record { asked = y.asked; settled = y.settled; most = omega (arith, y.most); row = record { is = λ up i h. y.row.is up i (omega arith) } }

  pub cut-is : (m : Owed) (i : ℕ) → m ≡ owed x (r - 1) → i < length survival → i ≤ r - 1 → {e : Ends}
      → Both (λ up. cond (owed_works (owed m.clean (m.owed - i))) (cell_at t up (half + i)) 0) e → Both (λ up. value_of u (owing r) survival (owed x (r - 1)) up i) e
  cut-is m i is size short =
      both-as (λ up.
      rw is
      (ap (λ v. cond (leb (r - 1 - i) x) v 0) (y.settled.row.is up i (omega arith)) ∙ sym (cut y.asked.list.whole r survival up x i (r - 1) (omega arith) (omega (arith, y.asked.two)))))

-- a debt that is paid
pub passable : {u r x left : ℕ} {m : Owed} {survival t : List ℕ} → Holds u r x left survival t → m ≡ owed x (r - 1) → left < length survival → Passable u r m left survival t
passable y is l = rw is (record { due = refl; size = l; holds = holds-less y (omega arith) })

pub past_is : {u r : ℕ} {m : Owed} {i : ℕ} {survival t : List ℕ} → Passable u r m i survival t → i ≤ m.owed → {e : Ends}
    → Both (λ up. cond (owed_works (owed m.clean (m.owed - i))) (cell_at t up (half + i)) 0) e → Both (λ up. value_of u (owing r) survival m up i) e
past_is {m = m} {i = i} y l b =
    let is = ap (owed m.clean) y.due in
    rw (← is) at (cut-is y.holds m i is y.size (omega (arith, y.due)) b)

-- with no components left
pub begun : {u r : ℕ} {m : Owed} {survival t t' : List ℕ} {works : Bool} {e : Ends} → Begun u r m survival t → works ≡ owed_works m → Both (λ up. cond works u 0) e → Put 0 e t t'
    → Reached u r m.clean 0 survival t t' (record { free = m; left = 0 })
begun {u} {r} {m} {survival} y end b p =
    let small = y.asked.list.size in
    record {
      free = ap (owed m.clean) y.none;
      left = refl;
      holds = record {
        asked = asked-put p (omega arith) y.asked;
        settled = settled-put p (omega arith) small y.settled;
        most = omega arith;
        row = row_more p refl (omega arith) (end-valued u r survival (owed m.clean 0) (omega (arith, y.asked.two)) (rw y.none at end) b) row-none;
      };
      kept = p.kept;
    }

-- the debt of a failed component
pub failed-is : (r : ℕ) (free : Owed) {m : Owed} → free.owed ≡ 0 → m ≡ owed_failed r free → m ≡ owed free.clean (r - 1)
failed-is r free none is = is ∙ rw none

-- the memory at hand: its value, and where the table holds it
pub record Stands (u r x left : ℕ) (survival : List ℕ) (works : Ends) (t₀ t : List ℕ) : Type 0 where
  pub holds : Holds u r x left survival t
  pub value : Both (λ up. value_of u (owing r) survival (owed x 0) up left) works
  pub kept : Kept t₀ t

-- a component more
module _ {u r x left : ℕ} {survival : List ℕ} {works fails : Ends} {t₀ t : List ℕ} (y : Stands u r x left survival works t₀ t) (l : left < length survival)
    (f : Both (λ up. value_of u (owing r) survival (owed x (r - 1)) up left) fails) where
  pub stands-stepping : {free : Owed} → free.owed ≡ 0 → Stepping u free left survival works fails t
  stands-stepping none = record {
    none = none;
    size = l;
    list = y.holds.asked.list;
    works_small = valued-within y.holds.asked.list.whole (owing r) survival y.holds.asked.list.units left (owed x 0) y.value;
    fails_small = valued-within y.holds.asked.list.whole (owing r) survival y.holds.asked.list.units left (owed x (r - 1)) f;
  }

  pub stands-more : {t' : List ℕ} {e : Ends} → Both (λ up. rounded up u (mixed u (get_or survival left 0) (one up works) (one up fails))) e → Put (left + 1) e t t'
      → Stands u r x (left + 1) survival e t₀ t'
  stands-more {e = e} b p =
      let small = y.holds.asked.list.size in
      let a : suc (left + 1) ≡ suc left + 1 = omega arith in
      let c : left + 1 ≡ suc left = omega arith in
      record {
        holds = record {
          asked = asked-put p (omega arith) y.holds.asked;
          settled = settled-put p (omega arith) small y.holds.settled;
          most = omega arith;
          row = rw a (row_more p (omega arith) (omega arith) (rw c at stepped) y.holds.row);
        };
        value = stepped;
        kept = kept_trans y.kept p.kept;
      }
    where
      stepped : Both (λ up. value_of u (owing r) survival (owed x 0) up (left + 1)) e
      stepped = both-as (λ up. rw (both_at y.value up, both_at f up) (sym (free-before y.holds.asked.list.whole r survival up x left (omega (arith, y.holds.asked.two))))) b

pub reached-on : {u r x done upto : ℕ} {survival t₀ t t' : List ℕ} {s s' : Known} → Reached u r x done survival t₀ t s → Reached u r s.free.clean upto survival t t' s'
    → Reached u r x upto survival t₀ t' s'
reached-on y z =
    let e = ap (λ m. m.clean) y.free in
    record { free = rw e at z.free; left = z.left; holds = rw e at z.holds; kept = kept_trans y.kept z.kept }
