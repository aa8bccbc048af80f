-- `digits` divides in two goes, and rounds up by what is left. Assumes nothing.
use mathlib.Core.Path.{sym, ap, ◌∙◌}
use mathlib.Core.Bool.{Bool}
use Prim.Native.Nat.{◌*◌, ◌^◌}
use native.Mathlib.Nat.{mod-lt}
use native.Mathlib.Omega.{arith}
use Rattle.rules.specs.Figure.{rounded}
use Rattle.nearest.proofs.Shifting.{shift, down, up_more, up_same, whole-small}
use Rattle.nearest.proofs.digits.Goals as goal

pub overflow_mul-low : goal.overflow_mul-low
overflow_mul-low c = omega (arith, mod-lt (c.args.near * shift) c.requires.some, c.requires.most)

pub overflow_mul-whole : goal.overflow_mul-whole
overflow_mul-whole c = omega (arith, whole-small c.args.unit c.args.near c.requires.some c.requires.less)

pub overflow_add-whole : goal.overflow_add-whole
overflow_add-whole c = omega (arith, whole-small c.args.unit c.args.near c.requires.some c.requires.less)

pub overflow_add-result : goal.overflow_add-result
overflow_add-result c =
    omega (arith, whole-small c.args.unit c.args.near c.requires.some c.requires.less)

pub returns-then-low-unit-ne0 : goal.returns-then-low-unit-ne0
returns-then-low-unit-ne0 c =
    up_more c.args.unit c.args.near c.requires.some (omega (arith, c.if-low-unit-ne0.true)) ∙ ap (λ (up : Bool). rounded up c.args.unit (c.args.near * 2 ^ 52)) (sym c.if-up.true)

pub returns-else-low-unit-ne0 : goal.returns-else-low-unit-ne0
returns-else-low-unit-ne0 c =
    up_same c.args.unit c.args.near c.requires.some c.if-low-unit-ne0.false ∙ ap (λ (up : Bool). rounded up c.args.unit (c.args.near * 2 ^ 52)) (sym c.if-up.true)

pub returns-else-up : goal.returns-else-up
returns-else-up c =
    down c.args.unit c.args.near c.requires.some ∙ ap (λ (up : Bool). rounded up c.args.unit (c.args.near * 2 ^ 52)) (sym c.if-up.false)
