-- Which row a rule's kind has, and which stretch is no whole deck. Assumes nothing.
use mathlib.Core.Path.{◌≡◌, refl}
use mathlib.Core.Logic.{◌⊎◌, inl, inr}
use mathlib.Core.Bool.{Bool, true, false, ◌&&◌}
use mathlib.Core.List.{List}
use Prim.Native.Nat.{ℕ, zero, suc, ◌+◌, ◌≤◌, ◌<◌}
use native.Mathlib.Omega.{arith}
use lib.Dec.{eqb}
use lib.ListN.{length, get_or-eq_default}
use borrow.Author.Tests.{ne_eqb}
use Rattle.rules.specs.Below.{row_of}
use Rattle.wording.specs.Rule.{by_numbers, by_kind, rule_text}

-- a kind that the table does not have
no_row : {A : Type 0} (kind : ℕ) (other : A) (rows : List A) → (1 ≤ kind → length rows < kind) → row_of kind other rows ≡ other
no_row zero other rows h = refl
no_row (suc kind) other rows h = get_or-eq_default rows other (omega (arith, h (omega arith)))

-- one number further
pub past : {kind : ℕ} (low : ℕ) → (kind ≡ low → ⊥) → low ≤ kind → low + 1 ≤ kind
past low other h = omega arith

pub other-kind : (kind first second : ℕ) → (1 ≤ kind → 8 < kind) → rule_text kind first second ≡ by_numbers kind first second
unfolding rule_text
other-kind kind first second h = no_row kind (by_numbers kind first second) (by_kind kind first second) h

pub not-whole : (n a b : ℕ) → (a ≡ 1 → ⊥) ⊎ (b ≡ n → ⊥) → eqb a 1 && eqb b n ≡ false
not-whole n a b (inl h) = rw (ne_eqb a 1 h)
not-whole n a b (inr h) = go (eqb a 1) (eqb b n) (ne_eqb b n h)
  where
    go : (x y : Bool) → y ≡ false → x && y ≡ false
    go true y e = e
    go false y e = refl
