-- `name_part` meets its contract, test by test: what was read are the part's first and last number (Parts). Assumes nothing.
use mathlib.Core.Path.{◌≡◌, sym, ap, ◌∙◌}
use mathlib.Core.Bool.{true, cond}
use native.Mathlib.Omega.{arith}
use lib.ListN.{take}
use lib.Seq.{length-take-le}
use borrow.Author.Tests.{not-true, not-false}
use Rattle.rules.specs.Below.{within}
use Rattle.rules.proofs.EachKind.{within-true}
use Rattle.naming.specs.Named.{number_in, first_in, last_in, range_failed, fits, part_named}
use Rattle.naming.proofs.Parts.{no-first, no_last, both-named}
use borrow.Author.Rules.{rules}
use Rattle.naming.proofs.name_part.Goals as goal
use Rattle.naming.proofs.name_part.Goals.{After-number_of-first, Else-outside, Else-outside-2}

-- what was read
first-is : (c : After-number_of-first) → c.number_of-first.result ≡ first_in c.args.part.now
first-is c =
    c.number_of-first.ensures ∙ ap (λ k. number_in (take k c.args.part.now)) c.up_to-at.ensures.0

-- what the two tests ask
first-in : (c : Else-outside) → within 1 (first_in c.args.part.now) c.args.n ≡ true
first-in c =
    let first : c.number_of-first.result ≡ first_in c.args.part.now = c.number_of-first.ensures ∙ ap (λ k. number_in (take k c.args.part.now)) c.up_to-at.ensures.0 in
    rw first at (not-false (within 1 c.number_of-first.result c.args.n) (sym c.outside.ensures ∙ c.if-outside.false))

last-in : (c : Else-outside-2) → within (first_in c.args.part.now) (last_in c.args.part.now) c.args.n ≡ true
last-in c =
    let first : c.number_of-first.result ≡ first_in c.args.part.now = c.number_of-first.ensures ∙ ap (λ k. number_in (take k c.args.part.now)) c.up_to-at.ensures.0 in
    rw (first, c.last_of-last.ensures) at (not-false (within c.number_of-first.result c.last_of-last.result c.args.n) (sym c.outside-2.ensures ∙ c.if-outside-2.false))

pub returns-then-named : goal.returns-then-named
returns-then-named c = search rules

pub up_to-at-requires : goal.up_to-at-requires
up_to-at-requires c = search rules

pub slice_bounds-number_of-end : goal.slice_bounds-number_of-end
slice_bounds-number_of-end c = sym (length-take-le _ _ c.up_to-at.ensures.1)

pub number_of-first-requires : goal.number_of-first-requires
number_of-first-requires c = search rules

pub last_of-last-requires : goal.last_of-last-requires
last_of-last-requires c =
    (c.up_to-at.ensures.0, c.up_to-at.ensures.1, first-is ((goal.at.last_of-last-requires c).After-number_of-first))

pub outside-requires : goal.outside-requires
outside-requires c = search rules

pub returns-then-outside : goal.returns-then-outside
returns-then-outside c =
    let out = rw (first-is ((goal.at.returns-then-outside c).After-number_of-first)) at (not-true (within 1 c.number_of-first.result c.args.n) (sym c.outside.ensures ∙ c.if-outside.true)) in
    sym (ap (λ t. cond t c.args.named (part_named c.args.n c.args.part.now c.args.named.state)) c.if-named.false ∙ no-first c.args.n c.args.part.now c.args.named.state out)

pub outside-requires-2 : goal.outside-requires-2
outside-requires-2 c = search rules

pub returns-then-outside-2 : goal.returns-then-outside-2
returns-then-outside-2 c =
    let out = rw (first-is ((goal.at.returns-then-outside-2 c).After-number_of-first), c.last_of-last.ensures) at (not-true (within c.number_of-first.result c.last_of-last.result c.args.n) (sym c.outside-2.ensures ∙ c.if-outside-2.true)) in
    sym (ap (λ t. cond t c.args.named (part_named c.args.n c.args.part.now c.args.named.state)) c.if-named.false ∙ no_last c.args.n c.args.part.now c.args.named.state (first-in ((goal.at.returns-then-outside-2 c).Else-outside)) out)

pub fail_range-after-requires : goal.fail_range-after-requires
fail_range-after-requires c =
    let low = within-true 1 (first_in c.args.part.now) c.args.n (first-in ((goal.at.fail_range-after-requires c).Else-outside)) in
    let high = within-true (first_in c.args.part.now) (last_in c.args.part.now) c.args.n (last-in ((goal.at.fail_range-after-requires c).Else-outside-2)) in
    (omega (arith, low.0, first-is ((goal.at.fail_range-after-requires c).After-number_of-first)), omega (arith, high.0, first-is ((goal.at.fail_range-after-requires c).After-number_of-first), c.last_of-last.ensures), omega (arith, high.1, c.last_of-last.ensures, c.requires))

pub returns : goal.returns
returns c =
    let all = both-named c.args.n c.args.part.now c.args.named.state (first-in ((goal.at.returns c).Else-outside)) (last-in ((goal.at.returns c).Else-outside-2)) in
    ap fits (c.fail_range-after.ensures ∙ ap (λ f. range_failed c.args.named.state f c.last_of-last.result) (first-is ((goal.at.returns c).After-number_of-first)) ∙ ap (range_failed c.args.named.state (first_in c.args.part.now)) c.last_of-last.ensures)
    ∙ sym (ap (λ t. cond t c.args.named (part_named c.args.n c.args.part.now c.args.named.state)) c.if-named.false ∙ all)
