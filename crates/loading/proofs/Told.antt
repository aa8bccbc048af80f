-- The worth's call, the gain's and the unit's: their contracts settle their outcomes. Assumes nothing.
use mathlib.Core.Path.{◌≡◌, sym, ◌∙◌}
use mathlib.Core.List.{List}
use Prim.Native.Nat.{ℕ}
use lib.IntN.{ℤ}
use Rattle.loading.specs.Outcome.{Told, Gained, Parted}

-- any two outcomes that the contract allows are equal
pub same-told : {file : List ℕ} {system fan : ℕ} {e₀ e e' : List ℤ} {r r' : ℕ} → Told file system fan e₀ e r → Told file system fan e₀ e' r'
    → (r ≡ r') × (e ≡ e')
same-told p q = (p.number ∙ sym q.number, p.ends ∙ sym q.ends)

pub same-gain : {file : List ℕ} {system fan p : ℕ} {e₀ e e' : List ℤ} {r r' : ℕ} → Gained file system fan p e₀ e r → Gained file system fan p e₀ e' r'
    → (r ≡ r') × (e ≡ e')
same-gain p q = (p.number ∙ sym q.number, p.ends ∙ sym q.ends)

pub same-unit : {file : List ℕ} {r r' : ℕ} → Parted file r → Parted file r' → r ≡ r'
same-unit p q = p.number ∙ sym q.number
