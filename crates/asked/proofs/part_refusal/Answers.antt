-- `part_refusal` hands on the weights that are rated and the stretch's length. Assumes nothing.
use mathlib.Core.Path.{◌≡◌, ap, ◌∙◌}
use Prim.Native.Nat.{suc, ◌-◌}
use native.Mathlib.Omega.{arith}
use lib.ListN.{length}
use borrow.Author.Tests.{not-false}
use Rattle.rules.specs.Below.{total}
use Rattle.rules.proofs.EachKind.{within-true}
use Rattle.refusals.specs.Shared.{rated_refusal}
use Rattle.asked.specs.Parts.{part_refusal}
use Rattle.asked.proofs.Refused.{own_is, rated-short, placed}
use Rattle.asked.proofs.part_refusal.Goals as goal

pub overflow_sub-from : goal.overflow_sub-from
overflow_sub-from c = omega (arith, (placed _ _ _ _ c.requires).fits)

pub rated_weights-rated-requires : goal.rated_weights-rated-requires
rated_weights-rated-requires c = (placed _ _ _ _ c.requires).inside

pub overflow_sub-upto : goal.overflow_sub-upto
overflow_sub-upto c = omega (arith, (placed _ _ _ _ c.requires).fits)

pub rated_refusal-requires : goal.rated_refusal-requires
rated_refusal-requires c =
    let small = within-true 1 c.args.n 64 (not-false _ (placed _ _ _ _ c.requires).size) in
    (small.1, rw c.rated_weights-rated.ensures (rated-short c.args.rule c.args.n c.args.weights.now c.args.a c.args.b))

pub returns : goal.returns
unfolding part_refusal
returns c =
    let fits = (placed _ _ _ _ c.requires).fits in
    let size : suc c.args.b - c.args.a ≡ c.args.b - (c.args.a - 1) = omega arith in
    c.rated_refusal.ensures
    ∙ ap (λ ws. rated_refusal c.args.rule c.args.n (length c.args.weights.now) (c.args.b - (c.args.a - 1)) (total ws) c.args.more.now) c.rated_weights-rated.ensures
    ∙ rw size (own_is c.args.rule c.args.n c.args.weights.now c.args.a c.args.b (c.args.b - (c.args.a - 1)) c.args.more.now)
