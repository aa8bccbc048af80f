-- The values of memories that owe, kinds 6 and 7: each component must work until the debt is paid; where the components end first, as many work as are
-- left and the clean ones make up for the rest. By the definition's own step. Assumes nothing.
use mathlib.Core.Path.{◌≡◌, refl, sym, ap, ◌∙◌}
use mathlib.Core.Bool.{Bool, true, false, cond}
use mathlib.Core.List.{List}
use Prim.Native.Nat.{ℕ, zero, suc, ◌+◌, ◌-◌, ◌≤◌, ◌<◌}
use native.Mathlib.Numerals.{add-one}
use native.Mathlib.Omega.{arith}
use lib.Dec.{leb}
use lib.ListN.{length, get_or}
use borrow.Author.Tests.{le-leb, ne_eqb}
use Rattle.rules.specs.Figure.{rounded, mixed, value}
use Rattle.rules.proofs.Rounding.{nothing}
use Rattle.memory.specs.declared.owed.Owed.{Owed}
use Rattle.memory.specs.Owed.{owed, owed_worked, owed_works, owing}
use Rattle.memory.proofs.Moves.{owed-worked-before}
use Rattle.memory.proofs.Owing.{owed-works, owed-fails, owed-ends, owed-dead}
use Rattle.places.specs.declared.Ends.{Ends}
use Rattle.units.specs.declared.debt.Shares.{Shares}
use Rattle.places.specs.Cells.{Both, MustWork, Workable, cell_at, one, shares_at, value_of}
use Rattle.places.proofs.Cells.{both_at, both-as}
use Rattle.places.proofs.Values.{Chance, valued-dead, valued-suc, valued-within}
use Rattle.gaps.specs.Gaps.{Due, Shared}
use Rattle.places.specs.Map.{shares}

module _ {u : ℕ} (whole : 0 < u) (r : ℕ) (survival : List ℕ) (up : Bool) where
  -- a memory that owes nothing before a component
  pub free-before : (x i : ℕ) → 1 ≤ r → value_of u (owing r) survival (owed x 0) up (i + 1)
      ≡ rounded up u (mixed u (get_or survival i 0) (value_of u (owing r) survival (owed x 0) up i) (value_of u (owing r) survival (owed x (r - 1)) up i))
  free-before x i some =
      ap (value_of u (owing r) survival (owed x 0) up) (add-one i)
      ∙ valued-suc u (owing r) survival i (owed x 0) up
      ∙ rw (owed-works r (suc i) (owed x 0) some, owed-fails r (suc i) (owed x 0) some)

  -- one that owes
  pub due-before : (m : Owed) (i : ℕ) → 1 ≤ m.owed → m.owed < r
      → value_of u (owing r) survival m up (i + 1) ≡ rounded up u (mixed u (get_or survival i 0) (value_of u (owing r) survival (owed_worked m) up i) 0)
  due-before m i some alive =
      ap (value_of u (owing r) survival m up) (add-one i)
      ∙ valued-suc u (owing r) survival i m up
      ∙ rw (
        owed-works r (suc i) m alive,
        owed-fails r (suc i) m alive,
        ne_eqb m.owed 0 (λ e. omega arith),
        valued-dead whole (owing r) survival (owed-dead r) i (owed m.clean r) (le-leb r r (omega arith)) up,
      )

  -- and one that owes no less than are left
  pub cut : (x i g : ℕ) → i ≤ g → g < r → value_of u (owing r) survival (owed x g) up i ≡ cond (leb (g - i) x) (value_of u (owing r) survival (owed 0 i) up i) 0
  unfolding value
  cut x zero g l alive =
      let e : g - 0 ≡ g = omega arith in
      rw (owed-ends r 0 (owed x g) alive, owed-ends r 0 (owed 0 0) (omega arith), e)
  cut x (suc i) zero l alive = absurd (omega arith)
  cut x (suc i) (suc g) l alive =
      let e : suc g - suc i ≡ g - i = omega arith in
      let d : suc g - 1 ≡ g = omega arith in
      let f : suc i - 1 ≡ i = omega arith in
      rw e
      (ap (value_of u (owing r) survival (owed x (suc g)) up) (sym (add-one i))
      ∙ due-before (owed x (suc g)) i (omega arith) alive
      ∙ rw (d, cut x i g (omega arith) (omega arith))
      (spread (leb (g - i) x)
      ∙ ap (λ v. cond (leb (g - i) x) v 0)
      (sym (ap (value_of u (owing r) survival (owed 0 (suc i)) up) (sym (add-one i)) ∙ due-before (owed 0 (suc i)) i (omega arith) (omega arith) ∙ rw f))))
    where
      spread : (b : Bool) → rounded up u (mixed u (get_or survival i 0) (cond b (value_of u (owing r) survival (owed 0 i) up i) 0) 0)
          ≡ cond b (rounded up u (mixed u (get_or survival i 0) (value_of u (owing r) survival (owed 0 i) up i) 0)) 0
      spread true = refl
      spread false = nothing up u (get_or survival i 0) whole

-- with no components left
pub end-valued : (u r : ℕ) (survival : List ℕ) (m : Owed) → m.owed < r → {works : Bool} {e : Ends} → works ≡ owed_works m → Both (λ up. cond works u 0) e
    → Both (λ up. value_of u (owing r) survival m up 0) e
unfolding value
end-valued u r survival m alive end = both-as (λ up. rw (end, owed-ends r 0 m alive))

-- a component that must work
module _ {u r : ℕ} {hand : Owed} {i : ℕ} {survival : List ℕ} {ends : Ends} {t : List ℕ} (y : Due u r hand i survival ends t) where
  module _ (p q : ℕ) (is : Chance u survival i p q) where
    pub due-must : {s : Shares} → Both (λ up. cell_at t up (shares + i)) (shares_at s) → MustWork u p q s ends
    due-must b = record {
      survival = rw is.read (y.list.units i);
      rest = is.rest;
      shared = record {
        of_p = rw (is.read, b.low) (y.shared.row false i y.size);
        of_q = rw (is.read, b.high) (y.shared.row true i y.size);
      };
      left = valued-within y.list.whole (owing r) survival y.list.units i hand y.value;
    }

    pub due-more : {e : Ends} → Both (λ up. rounded up u (mixed u p (one up ends) 0)) e → Both (λ up. value_of u (owing r) survival (owed hand.clean (hand.owed + 1)) up (i + 1)) e
    due-more =
        both-as (λ up.
        rw (is.read, both_at y.value up)
        (sym (rw (owed-worked-before hand) at (due-before y.list.whole r survival up (owed hand.clean (hand.owed + 1)) i (omega arith) y.alive))))

-- a debt taken back to i components left
pub record Back (u r x g from : ℕ) (survival : List ℕ) (i : ℕ) (m : Owed) (ends : Ends) : Type 0 where
  pub least : from ≤ i
  pub is : m ≡ owed x (g + (i - from))
  pub value : Both (λ up. value_of u (owing r) survival m up i) ends

pub back-first : {u r from : ℕ} {survival : List ℕ} {m : Owed} {ends : Ends} → Both (λ up. value_of u (owing r) survival m up from) ends → Back u r m.clean m.owed from survival from m ends
back-first {m = m} b = record { least = omega arith; is = ap (owed m.clean) (omega arith); value = b }

pub back_last : {u r x g from upto i : ℕ} {survival : List ℕ} {m : Owed} {ends : Ends} → i ≡ upto → Back u r x g from survival i m ends
    → Both (λ up. value_of u (owing r) survival (owed x (g + (upto - from))) up upto) ends
back_last e v = rw (v.is, e) at v.value

module _ {u r x g from : ℕ} {survival : List ℕ} {i : ℕ} {m : Owed} {ends : Ends} (v : Back u r x g from survival i m ends) where
  earlier : {m' : Owed} → m' ≡ owed m.clean (m.owed + 1) → m' ≡ owed x (g + (i + 1 - from))
  earlier before = before ∙ rw v.is (ap (owed x) (omega (arith, v.least)))

  pub back-due : i < length survival → g + (i + 1 - from) < r → {t : List ℕ} → Workable u survival t → Shared u survival t → Due u r m i survival ends t
  back-due size alive list shared = record {
    alive = rw v.is (omega (arith, v.least));
    size = size;
    list = list;
    shared = shared;
    value = v.value;
  }

  pub back_more : {m' : Owed} {e : Ends} → m' ≡ owed m.clean (m.owed + 1) → Both (λ up. value_of u (owing r) survival (owed m.clean (m.owed + 1)) up (i + 1)) e
      → Back u r x g from survival (i + 1) m' e
  back_more before b = record { least = omega (arith, v.least); is = earlier before; value = rw before b }
