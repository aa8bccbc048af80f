-- What comes out is document 01's: the memory that owes nothing past r - 1 clean ones is the line's start; the open clean ones, a component at a time, are
-- the ring's. Assumes nothing.
use mathlib.Core.Path.{◌≡◌, refl, sym, ap, subst, ◌∙◌}
use mathlib.Core.Bool.{Bool, true, cond}
use mathlib.Core.List.{List}
use Prim.Native.Nat.{ℕ, suc, ◌+◌, ◌-◌, ◌≤◌, ◌<◌, min}
use native.Mathlib.Numerals.{add-one}
use native.Mathlib.Omega.{arith}
use lib.ListN.{length, get_or}
use Rattle.rules.specs.State.{number_of}
use Rattle.rules.specs.Memory.{machine_of, row6, row7, ended, end7}
use Rattle.rules.specs.Figure.{rounded, mixed, value, figure_of}
use Rattle.memory.specs.declared.owed.Owed.{Owed}
use Rattle.memory.specs.declared.owed.Clean.{Clean}
use Rattle.memory.specs.Owed.{owed, clean_after, clean_failed, owing}
use Rattle.memory.specs.Open.{clean_open}
use Rattle.memory.proofs.Owing.{owed-row6, owed-row7}
use Rattle.memory.proofs.Opening.{clean-start, clean-works, clean-fails}
use Rattle.places.specs.declared.Ends.{Ends}
use Rattle.places.specs.Cells.{Both, Kept, cell_at, value_of}
use Rattle.places.proofs.Cells.{both_at, both-as, workable-kept, kept-none, kept_trans}
use Rattle.places.proofs.Values.{valued-within, valued-suc}
use Rattle.gaps.specs.declared.Known.{Known}
use Rattle.gaps.specs.Gaps.{Asked, Settled, Begun, Reached, Passable, Closable, closed_value}
use Rattle.gaps.proofs.Reaching.{holds_at}

pub asked-kept : {u r : ℕ} {survival t₀ t : List ℕ} → Kept t₀ t → Asked u r survival t₀ → Asked u r survival t
asked-kept k y = record { two = y.two; list = workable-kept k y.list }

-- the table settled, and the line's memory begun
pub start-begun : {u r : ℕ} {survival t₀ t : List ℕ} {m : Owed} → Asked u r survival t₀ → m ≡ owed (r - 1) 0 → Settled u r survival t → Kept t₀ t → Begun u r m survival t
start-begun y is s k = record { none = ap (λ m. m.owed) is; asked = asked-kept k y; settled = s }

-- the clean ones by another name
pub reached-as : {u r x x' upto : ℕ} {survival t₀ t : List ℕ} {s : Known} → x ≡ x' → Reached u r x upto survival t₀ t s → Reached u r x' upto survival t₀ t s
reached-as {u} {r} {upto = upto} {survival} {t₀} {t} {s} e = subst (λ x. Reached u r x upto survival t₀ t s) e

pub line-is : {u r : ℕ} {survival t₀ t : List ℕ} {s : Known} → Reached u r (r - 1) (length survival) survival t₀ t s → {e : Ends} → Both (λ up. cell_at t up (length survival)) e
    → Both (λ up. figure_of (row6 r) up u survival) e
line-is {u} {r} {survival} z b =
    both-as (λ up. (owed-row6 r (omega (arith, z.holds.asked.two)) (length survival)).values up u (number_of survival)) (holds_at z.holds (length survival) (omega arith) b)

module _ (r : ℕ) (survival : List ℕ) where
  abbrev n : ℕ
  n = length survival

  -- the value of the open clean ones with i components left
  abbrev opened : (u : ℕ) (up : Bool) (i : ℕ) → ℕ
  opened u up i = value_of u (machine_of (row7 r)) survival (clean_open r n i) up i

  -- the debt that a failed component closes them with
  abbrev pub closed : (i : ℕ) → Owed
  closed i = owed (min (n - suc i) (r - 1)) (r - 1)

  open-first : (u : ℕ) (up : Bool) → u ≡ opened u up 0
  unfolding value ended end7 clean_open
  open-first u up = refl

  open_more : (u : ℕ) → 2 ≤ r → (up : Bool) (i : ℕ) → i < n → rounded up u (mixed u (get_or survival i 0) (opened u up i) (value_of u (owing r) survival (closed i) up i)) ≡ opened u up (i + 1)
  open_more u two up i left =
      rw (add-one i)
      (sym (valued-suc u (machine_of (row7 r)) survival i (clean_open r n (suc i)) up
      ∙ rw (
        clean-works r n i left,
        clean-fails r n i left,
        (owed-row7 r (omega arith) i (min (n - suc i) (r - 1)) (r - 1) (omega arith)).values up u (number_of survival),
      )))

  -- the debt as the code makes it
  pub closed_is : (i : ℕ) {c : Clean} {m : Owed} → c ≡ clean_after r (n - i - 1) → m ≡ clean_failed r c → m ≡ closed i
  closed_is i after failed = let e : n - i - 1 ≡ n - suc i = omega arith in failed ∙ rw (after, e)

-- the clean ones at hand, of which i components less were read than of all: before the first, at the next, and what a working one brings those to that are worked out
pub hand_first : (r n : ℕ) → clean_after r n ≡ clean_after r (n - 0)
hand_first r n = ap (clean_after r) (omega arith)

pub hand-next : (r n i : ℕ) → clean_after r (n - i - 1) ≡ clean_after r (n - (i + 1))
hand-next r n i = ap (clean_after r) (omega arith)

-- the ring on the way: the clean ones that are known, and the value of the open ones
pub record Closing (u r : ℕ) (survival t₀ : List ℕ) (i : ℕ) (s : Known) (ends : Ends) (t : List ℕ) : Type 0 where
  pub asked : Asked u r survival t₀
  pub most : i ≤ length survival
  pub front : ℕ
  pub left : ℕ
  pub near : left ≤ i - (r - 1)
  pub reached : Reached u r front left survival t₀ t s
  pub value : Both (λ up. opened r survival u up i) ends

pub closing-first : {u r : ℕ} {survival t₀ t : List ℕ} {s : Known} {works : Bool} {e : Ends} → Reached u r (r - 1) 0 survival t₀ t s → works ≡ true → Both (λ up. cond works u 0) e
    → Closing u r survival t 0 s e t
closing-first {u} {r} {survival} z is b = record {
  asked = z.holds.asked;
  most = omega arith;
  front = r - 1;
  left = 0;
  near = omega arith;
  reached = record { free = z.free; left = z.left; holds = z.holds; kept = kept-none };
  value = both-as (λ up. rw is (open-first r survival u up)) b;
}

pub closing-last : {u r : ℕ} {survival t₀ t : List ℕ} {i : ℕ} {s : Known} {e : Ends} → length survival ≤ i → Closing u r survival t₀ i s e t → Both (λ up. figure_of (row7 r) up u survival) e
closing-last {u} {r} {survival} {i = i} l v =
    let e : i ≡ length survival = omega (arith, v.most) in
    both-as (λ up. ap (λ m. value_of u (machine_of (row7 r)) survival m up (length survival)) (clean-start r (length survival))) (rw e at v.value)

module _ {u r : ℕ} {survival t₀ t : List ℕ} {i : ℕ} {s : Known} {ends : Ends} (v : Closing u r survival t₀ i s ends t) (l : i < length survival) {m : Owed} (is : m ≡ closed r survival i) where
  module _ {t' : List ℕ} {s' : Known} (z : Reached u r m.clean (i - m.owed) survival t t' s') where
    pub closing-passable : Passable u r m i survival t'
    closing-passable = record { due = ap (λ f. f.owed) is; size = l; holds = z.holds }

    pub closing-closable : Closable u r m i survival ends t'
    closing-closable = record {
      passable = closing-passable;
      works_small = valued-within v.asked.list.whole (machine_of (row7 r)) survival v.asked.list.units i _ v.value;
    }

    pub closing-more : {e : Ends} → Both (closed_value u r m i survival ends) e → Closing u r survival t₀ (i + 1) s' e t'
    closing-more b = record {
      asked = v.asked;
      most = omega arith;
      front = m.clean;
      left = i - m.owed;
      near = rw is (omega arith);
      reached = record { free = z.free; left = z.left; holds = z.holds; kept = kept_trans v.reached.kept z.kept };
      value = both-as (λ up. open_more r survival u v.asked.two up i l) (both-as (λ up. rw (both_at v.value up, is)) b);
    }
