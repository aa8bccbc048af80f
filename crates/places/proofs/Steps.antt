-- What a step of both ends hands on for each of them: the file's unit is one of the step's. Assumes nothing.
use mathlib.Core.Path.{◌≡◌}
use mathlib.Core.Bool.{Bool, true, false}
use Prim.Native.Nat.{ℕ}
use native.Mathlib.Omega.{arith}
use Rattle.units.specs.Step.{Parts, whole}
use Rattle.units.specs.Odds.{Prepared, Values}
use Rattle.units.specs.Debt.{Shared}
use Rattle.units.specs.declared.odds.Odds.{Odds}
use Rattle.units.specs.declared.debt.Shares.{Shares}
use Rattle.units.proofs.Laws.{whole-any}
use Rattle.places.specs.declared.Ends.{Ends}
use Rattle.places.specs.Cells.{MustWork, Steady, Within, one}

module _ (isDecimal : Bool) {u : ℕ} (is : u ≡ whole isDecimal) {works : Ends} where
  pub steady-parts : {p q : ℕ} {fails : Ends} → Steady (whole isDecimal) p q works fails → (up : Bool) → Parts u p q (one up works) (one up fails)
  steady-parts y false =
      rw is (record { unit = whole-any isDecimal; survival = y.survival; rest = y.rest; left = y.left.low; right = y.right.low })
  steady-parts y true =
      rw is (record { unit = whole-any isDecimal; survival = y.survival; rest = y.rest; left = y.left.high; right = y.right.high })

  pub row-values : {o : Odds} {fails : Ends} → Prepared (whole isDecimal) o → Within (whole isDecimal) works → Within (whole isDecimal) fails → (up : Bool)
      → Prepared u o × Values u (one up works) (one up fails)
  row-values h v w false = rw is (h, record { left = v.low; right = w.low })
  row-values h v w true = rw is (h, record { left = v.high; right = w.high })

  pub must-parts : {p q : ℕ} {s : Shares} → MustWork (whole isDecimal) p q s works → (up : Bool) → Parts u p q (one up works) 0 × Shared u p s
  must-parts y false =
      rw is (record { unit = whole-any isDecimal; survival = y.survival; rest = y.rest; left = y.left.low; right = omega arith }, y.shared)
  must-parts y true =
      rw is (record { unit = whole-any isDecimal; survival = y.survival; rest = y.rest; left = y.left.high; right = omega arith }, y.shared)
