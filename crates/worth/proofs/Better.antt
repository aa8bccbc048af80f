-- Request 09, of the worth: under a kind of which it is claimed, the upper end of an outcome is not below 0. What a call answers is the definitions' worth.
-- Assumes nothing.
use Prim.Native.Nat.{ℕ}
use mathlib.Core.Path.{◌≡◌, sym}
use mathlib.Core.Bool.{true}
use mathlib.Core.List.{List}
use lib.IntN.{ℤ, pos}
use lib.Signed.{◌≤ℤ◌}
use Rattle.rules.specs.declared.Worth.TheVariants.{Ends}
use Rattle.rules.specs.Asked.{Asked}
use Rattle.rules.specs.Better.{rising}
use Rattle.rules.proofs.Better.{worth-rising}
use Rattle.worth.specs.Outcome.{Weighed}
use Rattle.worth.proofs.Outcome.{worth-is}

pub rising-weighed : {q : Asked} {fan : ℕ} {t₀ t : List ℕ} {l h : ℤ} → rising q.rule.kind ≡ true → Weighed q fan t₀ t (Ends l h) → pos 0 ≤ℤ h
rising-weighed {q} {fan} {t₀} kind r = worth-rising q t₀ fan kind _ _ (sym (worth-is r))
