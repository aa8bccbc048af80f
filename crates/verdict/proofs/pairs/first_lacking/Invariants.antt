-- `verdict::pairs::first_lacking` meets its contract: at no start that was passed has a pair a failing window. Assumes nothing.
use mathlib.Core.Path.{◌≡◌}
use mathlib.Core.Bool.{false}
use Rattle.rules.specs.Below.{some}
use Rattle.rules.specs.Pairs.{pairs_of, any_of, lacking_from}
use Rattle.verdict.proofs.pairs.first_lacking.Given as goal

abbrev pub invariant-loop-a : goal.invariant-loop-a
invariant-loop-a l = some (λ s. any_of (lacking_from l.n l.w s) (pairs_of l.k l.r l.more)) l.a ≡ false
