-- Places of a table after a value is written: a row made longer, one elsewhere; and the cells past the first 7,800 kept. Assumes nothing.
use Prim.Native.Nat.{ℕ, ◌+◌, ◌-◌, ◌*◌, ◌≤◌, ◌<◌}
use mathlib.Core.Path.{◌≡◌, refl, ◌∙◌}
use mathlib.Core.Bool.{Bool, true, false}
use mathlib.Core.Logic.{◌⊎◌, inl, inr, ⊎_elim}
use mathlib.Core.List.{List}
use native.Mathlib.Omega.{arith}
use lib.ListN.{length, get_or, set, length-set}
use lib.Seq.{get_or-set_same, get_or-set_other, drop-set-lt}
use borrow.Author.Count.{below_more}
use Rattle.rules.specs.Refusal.{cells}
use Rattle.places.specs.declared.Ends.{Ends}
use Rattle.places.specs.Cells.{Side, one, Both, cell_at, Place, Kept, Put, Shelf, Written, Workable}
use Rattle.places.specs.Map.{far, half}

pub both_at : {f : Bool → ℕ} {r : Ends} → Both f r → (up : Bool) → one up r ≡ f up
both_at b false = b.low
both_at b true = b.high

pub both-as : {f g : Bool → ℕ} {r : Ends} → ((up : Bool) → f up ≡ g up) → Both f r → Both g r
both-as same b = record { low = b.low ∙ same false; high = b.high ∙ same true }

pub kept-none : {t : List ℕ} → Kept t t
kept-none = record { long = refl; rest = refl }

pub kept_set : {t₀ t : List ℕ} (j v : ℕ) → j < cells → Kept t₀ t → Kept t₀ (set t j v)
kept_set {t = t} j v l k = record { long = length-set t j v ∙ k.long; rest = drop-set-lt cells t j v l ∙ k.rest }

pub kept_trans : {a b c : List ℕ} → Kept a b → Kept b c → Kept a c
kept_trans h k = record { long = k.long ∙ h.long; rest = k.rest ∙ h.rest }

pub room-kept : {t₀ t : List ℕ} → Kept t₀ t → cells ≤ length t₀ → cells ≤ length t
room-kept k room = omega (arith, k.long)

pub workable-kept : {u : ℕ} {survival t₀ t : List ℕ} → Kept t₀ t → Workable u survival t₀ → Workable u survival t
workable-kept k y = record { whole = y.whole; narrow = y.narrow; size = y.size; units = y.units; room = room-kept k y.room }

-- the two sides
pub side-near : {from : ℕ} → Side from → from ≤ half
side-near (inl e) = omega arith
side-near (inr e) = omega arith

pub other-side : {from : ℕ} → Side from → Side (half - from)
other-side (inl e) = inr (omega arith)
other-side (inr e) = inl (omega arith)

-- a place of one side lies outside a row on the other
pub apart : {from k n : ℕ} → Side from → k < half → n ≤ half → (from + k < half - from) ⊎ (half - from + n ≤ from + k)
apart (inl e) l h = inl (omega arith)
apart (inr e) l h = inr (omega arith)

-- the two stores of a value
module _ (at : ℕ) (e : Ends) (t : List ℕ) (p : Place at t) where
  abbrev stored : List ℕ
  stored = set (set t at e.low) (far + at) e.high

  put-here : (up : Bool) → cell_at stored up at ≡ one up e
  put-here false =
      get_or-set_other (set t at e.low) (far + at) at e.high 0 (λ q. omega arith) ∙ get_or-set_same t at e.low 0 (omega (arith, p.low, p.room))
  put-here true = get_or-set_same (set t at e.low) (far + at) e.high 0 (rw (length-set t at e.low) (omega (arith, p.low, p.room)))

  put_other : (up : Bool) (k : ℕ) → k < far → (k ≡ at → ⊥) → cell_at stored up k ≡ cell_at t up k
  put_other false k l away = get_or-set_other (set t at e.low) (far + at) k e.high 0 (λ q. omega arith) ∙ get_or-set_other t at k e.low 0 away
  put_other true k l away =
      get_or-set_other (set t at e.low) (far + at) (far + k) e.high 0 (λ q. away (omega arith))
      ∙ get_or-set_other t at (far + k) e.low 0 (λ q. omega (arith, p.low))

  put-behind : (c : ℕ) → 2 * far ≤ c → get_or stored c 0 ≡ get_or t c 0
  put-behind c l =
      get_or-set_other (set t at e.low) (far + at) c e.high 0 (λ q. omega (arith, p.low)) ∙ get_or-set_other t at c e.low 0 (λ q. omega (arith, p.low))

  pub put-set : Put at e t stored
  put-set = record {
    here = put-here;
    other = put_other;
    behind = put-behind;
    kept = kept_set (far + at) e.high (omega (arith, p.low)) (kept_set at e.low (omega (arith, p.low)) kept-none);
  }

module _ {f : Bool → ℕ → ℕ} {t t' : List ℕ} {off at : ℕ} {e : Ends} (p : Put at e t t') where
  pub row_other : {n : ℕ} → off + n ≤ far → ((k : ℕ) → k < n → off + k ≡ at → ⊥) → Shelf f t off n → Shelf f t' off n
  row_other low away r = record { is = λ up k l. p.other up (off + k) (omega arith) (away k l) ∙ r.is up k l }

  pub row_more : {n : ℕ} → at ≡ off + n → off + n < far → Both (λ up. f up n) e → Shelf f t off n → Shelf f t' off (n + 1)
  row_more {n} w low b r =
      record { is = λ up. below_more _ n ((row_other (omega arith) (λ k h q. omega arith) r).is up) (rw (← w) (p.here up ∙ both_at b up)) }

pub row-none : {f : Bool → ℕ → ℕ} {t : List ℕ} {off : ℕ} → Shelf f t off 0
row-none = record { is = λ up k l. absurd (omega arith) }

-- the same row where the places are as they were
pub row_same : {f : Bool → ℕ → ℕ} {t₀ t : List ℕ} {off n : ℕ} → ((up : Bool) (k : ℕ) → k < n → cell_at t up (off + k) ≡ cell_at t₀ up (off + k)) → Shelf f t₀ off n → Shelf f t off n
row_same same r = record { is = λ up k l. same up k l ∙ r.is up k l }

-- and the same places by another account
pub row_as : {f g : Bool → ℕ → ℕ} {t : List ℕ} {off n : ℕ} → ((up : Bool) (k : ℕ) → k < n → f up k ≡ g up k) → Shelf f t off n → Shelf g t off n
row_as same r = record { is = λ up k l. r.is up k l ∙ same up k l }

pub written_none : {f : Bool → ℕ → ℕ} {off : ℕ} {t : List ℕ} → Written f 0 off t t
written_none = record { row = row-none; other = λ up k l o. refl; kept = kept-none }

-- one place more of a row that is being written
pub written-more : {f : Bool → ℕ → ℕ} {n off at : ℕ} {t₀ t t' : List ℕ} {e : Ends} → Put at e t t' → at ≡ off + n → off + n < far → Both (λ up. f up n) e
    → Written f n off t₀ t → Written f (n + 1) off t₀ t'
written-more p w low b r = record {
  row = row_more p w low b r.row;
  other = λ up k l o. p.other up k l (λ q. ⊎_elim (λ h. omega arith) (λ h. omega arith) o) ∙ r.other up k l (⊎_elim (λ h. inl h) (λ h. inr (omega arith)) o);
  kept = kept_trans r.kept p.kept;
}
