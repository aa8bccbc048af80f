-- What a later rank means of the exact chances: each place that is left out of a group gains surely less than a place with the highest lower end, since its figures with the spare
-- lie below that place's, and the exact sums between them. Assumes nothing.
use mathlib.Core.Path.{◌≡◌, sym, ap, ◌∙◌}
use mathlib.Core.Bool.{Bool, true, false, cond}
use Prim.Native.Nat.{ℕ, suc, ◌+◌, ◌*◌, ◌-◌, ◌^◌, ◌≤◌, ◌<◌}
use native.Mathlib.Nat.{le_trans, mul-le-mul_right, le_of_mul-le-mul_right, one-le-pow}
use native.Mathlib.Omega.{arith}
use lib.ListN.{replicate}
use borrow.Author.Tests.{lt-ltb}
use Rattle.rules.specs.Asked.{Asked, unit_in, parts_of, size_of, low_of, high_of, exact_of}
use Rattle.rules.specs.Refusal.{cells}
use Rattle.rules.specs.Answer.{figures_of}
use Rattle.rules.specs.Worth.{swapped}
use Rattle.rules.proofs.Unless.{unless-none}
use Rattle.rules.proofs.Units.{unit-some}
use Rattle.rules.proofs.Accepted.{figures-third}
use Rattle.rules.proofs.Sure.{swapped-third}
use Rattle.spares.specs.Places.{spare_refusal, low_with, high_with}
use Rattle.spares.proofs.Rating.{clear, accepted, small}
use Rattle.spares.specs.Highest.{highest}
use Rattle.spare_lines.specs.Ranks.{rest}
use Rattle.spare_lines.specs.Best.{ranked_of}
use Rattle.spare_lines.proofs.Ranks.{left_out}

module _ (q : Asked) (p : ℕ) (none : spare_refusal q p ≡ 0) where
  abbrev all : ℕ
  all = unit_in q ^ (parts_of q - 1)

  some : 1 ≤ all
  some = one-le-pow (parts_of q - 1) (unit_in q) (unit-some q.version)

  low-high : low_of q ≤ high_of q
  unfolding figures_of
  low-high =
      let third = figures-third q clear _ _ (unless-none _ _ _ (accepted q p none)) in
      le_of_mul-le-mul_right (le_trans third.above_low third.below_high) some

  pub surely-less : (left : ℕ → Bool) (i j : ℕ) → i < size_of q → j < size_of q → low_with q p i ≡ highest (ranked_of q p).low left (size_of q)
      → rest (ranked_of q p) left j ≡ true → exact_of (swapped (q.a + j) p q) < exact_of (swapped (q.a + i) p q)
  surely-less left i j l m leads out =
      let k = ranked_of q p in
      let low-is : k.low i ≡ low_with q p i = ap (λ b. cond b (low_with q p i) 0) (lt-ltb i (size_of q) l) in
      let high_is : k.high j ≡ high_with q p j = ap (λ b. cond b (high_with q p j) 0) (lt-ltb j (size_of q) m) in
      let apart = left_out k left i j (low-is ∙ leads) out in
      let below : suc (high_with q p j) ≤ low_with q p i = omega (arith, apart, low-is, high_is, low-high) in
      let better = swapped-third q clear (q.a + i) p (accepted q p none) (small q p none) in
      let worse = swapped-third q clear (q.a + j) p (accepted q p none) (small q p none) in
      omega (arith, mul-le-mul_right all below, better.above_low, worse.below_high, some)
