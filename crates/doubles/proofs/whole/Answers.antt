-- `whole` cuts the product, which leaves the whole number just below; one more is the one just above where the cut lost something. Assumes nothing.
use Rattle.std.proofs.Common.{◌≡◌, ℕ, ◌*◌, ◌/◌, ◌^◌, ◌≤◌, Bool, pos, sym, ap, ◌∙◌, arith, le→leb}
use denote.Floats.{passes}
use lib.Ieee.{binary64, fits, in_float, of_int}
use Rattle.rules.specs.State.{S}
use Rattle.rules.specs.Figure.{rounded}
use Rattle.rules.specs.Doubles.{parts, own, whole_of}
use Rattle.rules.proofs.Grid.{parts-pos}
use Rattle.doubles.specs.Floats.{bits}
use Rattle.doubles.proofs.Exactly.{whole-value}
use Rattle.doubles.proofs.Cutting.{Held, held, asks, cut, cut-le, more, no_more, step-up, stay}
use Rattle.doubles.proofs.whole.Goals as goal
use Rattle.doubles.proofs.whole.Goals.{After-multiplied-product, After-truncating_f64_to_u64-below}

product : (c : After-multiplied-product) → Held c.multiplied-product.result (own (bits c.args.x) * S)
product c =
    held c.args.x c.multiplied-product.result (passes (fits binary64 c.args.x) c.well_formed.1.0.1) c.requires (passes (fits binary64 c.multiplied-product.result) c.multiplied-product.type_inv) c.multiplied-product.ensures

below : (c : After-truncating_f64_to_u64-below) → c.truncating_f64_to_u64-below.result ≡ own (bits c.args.x) * S / parts
below c = c.truncating_f64_to_u64-below.ensures ∙ cut _ _ (product c.before)

below-le : (c : After-truncating_f64_to_u64-below) → c.truncating_f64_to_u64-below.result ≤ S
below-le c = rw (below c) (cut-le _ (product c.before).within)

counted : (k : ℕ) → k ≤ S → k ≤ 2 ^ 53
counted k h = omega arith

pub truncating_f64_to_u64-below-requires : goal.truncating_f64_to_u64-below-requires
truncating_f64_to_u64-below-requires c =
    let within = asks _ _ (product ((goal.at.truncating_f64_to_u64-below-requires c).After-multiplied-product)) in
    record { lower_bound = within.0; upper_bound = within.1 }

pub int_to_float-below : goal.int_to_float-below
unfolding in_float
int_to_float-below c =
    le→leb c.truncating_f64_to_u64-below.result (2 ^ 53) (counted c.truncating_f64_to_u64-below.result (below-le ((goal.at.int_to_float-below c).After-truncating_f64_to_u64-below)))

pub overflow_add-result : goal.overflow_add-result
overflow_add-result c = omega (arith, below-le ((goal.at.overflow_add-result c).After-truncating_f64_to_u64-below))

pub returns-then-below-product : goal.returns-then-below-product
unfolding whole_of
returns-then-below-product c =
    let w = own (bits c.args.x) * S in
    step-up c.truncating_f64_to_u64-below.result parts w parts-pos (below ((goal.at.returns-then-below-product c).After-truncating_f64_to_u64-below))
    (more (of_int binary64 (pos c.truncating_f64_to_u64-below.result)) _ c.truncating_f64_to_u64-below.result w (whole-value c.truncating_f64_to_u64-below.result (counted c.truncating_f64_to_u64-below.result (below-le ((goal.at.returns-then-below-product c).After-truncating_f64_to_u64-below)))) (product ((goal.at.returns-then-below-product c).After-multiplied-product)) c.if-below-product.true)
    ∙ ap (λ (up : Bool). rounded up parts w) (sym c.if-up.true)

pub returns-else-below-product : goal.returns-else-below-product
unfolding whole_of
returns-else-below-product c =
    let w = own (bits c.args.x) * S in
    stay c.truncating_f64_to_u64-below.result parts w parts-pos (below ((goal.at.returns-else-below-product c).After-truncating_f64_to_u64-below))
    (no_more (of_int binary64 (pos c.truncating_f64_to_u64-below.result)) _ c.truncating_f64_to_u64-below.result w (whole-value c.truncating_f64_to_u64-below.result (counted c.truncating_f64_to_u64-below.result (below-le ((goal.at.returns-else-below-product c).After-truncating_f64_to_u64-below)))) (product ((goal.at.returns-else-below-product c).After-multiplied-product)) c.if-below-product.false)
    ∙ ap (λ (up : Bool). rounded up parts w) (sym c.if-up.true)

pub returns-else-up : goal.returns-else-up
unfolding whole_of rounded
returns-else-up c = below ((goal.at.returns-else-up c).After-truncating_f64_to_u64-below) ∙ ap (λ (up : Bool). rounded up parts (own (bits c.args.x) * S)) (sym c.if-up.false)
