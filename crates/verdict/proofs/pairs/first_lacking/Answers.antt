-- `verdict::pairs::first_lacking` meets its contract: at no start that was passed has a pair a failing window. Assumes nothing.
use mathlib.Core.Path.{◌≡◌, sym, ◌∙◌}
use native.Mathlib.Omega.{arith}
use Rattle.rules.proofs.Lowest.{nowhere-yet, passed, found, nowhere}
use Rattle.verdict.proofs.pairs.first_lacking.Goals as goal

pub loop-a-init : goal.loop-a-init
loop-a-init c = nowhere-yet _

pub some_lacks-requires : goal.some_lacks-requires
some_lacks-requires c =
    record { few = c.requires.few; start = record { judgeable = c.requires.pairs; start = c.loop-a-test.true } }

pub returns-then-some_lacks : goal.returns-then-some_lacks
returns-then-some_lacks c =
    sym
    (found _ _ _ c.loop-a-test.true c.loop-a.invariant (sym c.some_lacks.ensures ∙ c.if-some_lacks.true))

pub loop-a-preserved : goal.loop-a-preserved
loop-a-preserved c = (passed _ _ c.loop-a.invariant (sym c.some_lacks.ensures ∙ c.if-some_lacks.false))

pub returns : goal.returns
returns c =
    let e : c.loop-a.a ≡ c.args.n = omega arith in
    sym (nowhere _ _ (rw e at c.loop-a.invariant))
