-- `times` brings a share's parts to those of a half of a product. Assumes nothing.
use Prim.Native.Nat.{◌*◌, ◌/◌}
use mathlib.Core.Path.{◌≡◌, ap, ◌∙◌}
use native.Mathlib.Omega.{arith}
use native.Mathlib.Nat.{mul-div-mul_right}
use Rattle.units.specs.Share.{share_parts, word_parts}
use Rattle.units.proofs.share.times.Goals as goal

pub overflow_mul-x : goal.overflow_mul-x
overflow_mul-x c = omega (arith, c.requires)

pub returns : goal.returns
returns c =
    let e : c.args.share * (c.args.x * 4) ≡ c.args.share * c.args.x * 4 = omega arith in
    c.upper_half.ensures ∙ ap (λ y. y / word_parts) e ∙ mul-div-mul_right (c.args.share * c.args.x) share_parts (omega arith)
