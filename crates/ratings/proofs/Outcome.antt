-- Two outcomes of the rating, of the worth and of the count table for C are one. Assumes nothing.
use mathlib.Core.Path.{◌≡◌, sym, ◌∙◌}
use mathlib.Core.List.{List}
use lib.IntN.{ℤ}
use Prim.Native.Nat.{ℕ}
use Rattle.rules.specs.declared.Rule.{Rule}
use Rattle.rules.specs.Asked.{Asked}
use Rattle.ratings.specs.Outcome.{Timed, TimedWorth, TimedCounts}

pub same-timed : {q : Asked} {t₀ t t' : List ℕ} {r r' : ℕ} → Timed q t₀ t r → Timed q t₀ t' r' → (r ≡ r') × (t ≡ t')
same-timed p q = (p.answer ∙ sym q.answer, p.table ∙ sym q.table)

pub same-timed-worth : {q : Asked} {fan : ℕ} {t₀ t t' : List ℕ} {e₀ e e' : List ℤ} {r r' : ℕ} → TimedWorth q fan t₀ t e₀ e r → TimedWorth q fan t₀ t' e₀ e' r'
    → (r ≡ r') × (t ≡ t') × (e ≡ e')
same-timed-worth p q = (p.number ∙ sym q.number, p.table ∙ sym q.table, p.ends ∙ sym q.ends)

pub same-timed-counts : {rule : Rule} {n : ℕ} {weights t₀ t t' m₀ m m' : List ℕ} {r r' : ℕ} → TimedCounts rule n weights t₀ t m₀ m r
    → TimedCounts rule n weights t₀ t' m₀ m' r' → (r ≡ r') × (t ≡ t') × (m ≡ m')
same-timed-counts p q = (p.number ∙ sym q.number, p.table ∙ sym q.table, p.room ∙ sym q.room)
