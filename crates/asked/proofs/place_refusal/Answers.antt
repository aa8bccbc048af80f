-- `place_refusal` tries the conditions of `placeRefusal` in their order. Assumes nothing.
use mathlib.Core.Path.{sym, ◌∙◌}
use Rattle.rules.specs.Refusal.{first_of}
use Rattle.rules.proofs.Accepted.{first-of, first-after}
use Rattle.asked.specs.Parts.{place_refusal}
use Rattle.asked.proofs.place_refusal.Goals as goal

pub returns-then-kind_out : goal.returns-then-kind_out
unfolding place_refusal
returns-then-kind_out c = sym (first-of 1 _ _ (sym c.kind_out.ensures ∙ c.if-kind_out.true))

pub returns-then-size_out : goal.returns-then-size_out
unfolding place_refusal
returns-then-size_out c =
    let one = sym c.kind_out.ensures ∙ c.if-kind_out.false in
    let two = sym c.size_out.ensures ∙ c.if-size_out.true in
    sym (first-after 1 _ _ one ∙ first-of 2 _ _ two)

pub returns-then-stretch_out : goal.returns-then-stretch_out
unfolding place_refusal
returns-then-stretch_out c =
    let one = sym c.kind_out.ensures ∙ c.if-kind_out.false in
    let two = sym c.size_out.ensures ∙ c.if-size_out.false in
    let three = sym c.stretch_out.ensures ∙ c.if-stretch_out.true in
    sym (first-after 1 _ _ one ∙ first-after 2 _ _ two ∙ first-of 3 _ _ three)

pub returns : goal.returns
unfolding place_refusal first_of
returns c =
    let one = sym c.kind_out.ensures ∙ c.if-kind_out.false in
    let two = sym c.size_out.ensures ∙ c.if-size_out.false in
    let three = sym c.stretch_out.ensures ∙ c.if-stretch_out.false in
    rw (one, two, three)
