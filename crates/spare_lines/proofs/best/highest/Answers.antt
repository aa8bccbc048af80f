-- `best::highest` meets its contract: so far it is the highest of the places passed. Assumes nothing.
use mathlib.Core.Path.{◌≡◌, refl, ap, ap₂, ◌∙◌}
use Prim.Native.Nat.{max}
use native.Mathlib.Omega.{arith}
use native.Mathlib.Numerals.{add-one}
use Rattle.spares.specs.Highest.{highest}
use Rattle.spare_lines.proofs.best.highest.Goals as goal

pub loop-i-init : goal.loop-i-init
unfolding highest
loop-i-init c = refl

pub loop-i-preserved : goal.loop-i-preserved
unfolding highest
loop-i-preserved c =
    rw add-one (c.max-top.ensures ∙ ap₂ max c.loop-i.invariant c.counted.ensures)

pub returns : goal.returns
returns c =
    let all : c.loop-i.i ≡ c.args.size = omega arith in
    c.loop-i.invariant ∙ ap (highest _ _) all
