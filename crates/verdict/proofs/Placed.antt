-- The answer with a place: what is looked for from the lowest start upward is found exactly if the place is below the bound. Assumes nothing.
use mathlib.Core.Path.{◌≡◌, ap}
use mathlib.Core.Bool.{Bool}
use Prim.Native.Nat.{ℕ, suc, ◌+◌, ◌≤◌, ◌<◌}
use native.Mathlib.Numerals.{add-one}
use borrow.Author.Tests.{lt-ltb, le-ltb}
use Rattle.rules.specs.declared.Verdict.TheVariants.{Works, Fails}
use Rattle.rules.specs.Below.{some, first}
use Rattle.rules.specs.Answer.{judgment}
use Rattle.rules.proofs.Lowest.{there-or-not}

module _ (p : ℕ → Bool) (k a : ℕ) (looked : a ≡ first p k) where
  pub placed : a < k → Fails (a + 1) ≡ judgment (some p k) (suc (first p k))
  unfolding judgment
  placed l = rw (← (there-or-not p k), ← looked, lt-ltb a k l) (ap Fails (add-one a))

  pub nowhere : k ≤ a → Works ≡ judgment (some p k) (suc (first p k))
  unfolding judgment
  nowhere l = rw (← (there-or-not p k), ← looked, le-ltb a k l)
