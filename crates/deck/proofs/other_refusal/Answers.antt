-- `deck::other_refusal` tries the two conditions of `otherRefusal` in their order. Assumes nothing.
use mathlib.Core.Path.{sym, ap, ◌∙◌}
use mathlib.Core.Bool.{not}
use mathlib.Core.List.{[]}
use lib.Dec.{eqb}
use borrow.Author.Tests.{lt-ltb, le-ltb, eq-eqb, ne_eqb}
use Rattle.rules.specs.Refusal.{first_of}
use Rattle.rules.specs.Doubles.{other_refusal}
use Rattle.rules.proofs.Accepted.{first-of, first-after}
use Rattle.deck.proofs.other_refusal.Goals as goal

pub returns-then-bytes-lt-SHORTEST_HEADER : goal.returns-then-bytes-lt-SHORTEST_HEADER
unfolding other_refusal
returns-then-bytes-lt-SHORTEST_HEADER c = sym (first-of 10 _ _ (lt-ltb _ _ c.if-bytes-lt-SHORTEST_HEADER.true))

pub returns-then-number2-ne-FIRST : goal.returns-then-number2-ne-FIRST
unfolding other_refusal
returns-then-number2-ne-FIRST c =
    let long = le-ltb _ _ c.if-bytes-lt-SHORTEST_HEADER.false in
    let other = ap (λ v. not (eqb v 1)) (sym c.number2.ensures) ∙ ap not (ne_eqb _ 1 c.if-number2-ne-FIRST.true) in
    sym (first-after 10 _ _ long ∙ first-of 11 _ [] other)

pub returns : goal.returns
unfolding other_refusal first_of
returns c =
    let long = le-ltb _ _ c.if-bytes-lt-SHORTEST_HEADER.false in
    let first = ap (λ v. not (eqb v 1)) (sym c.number2.ensures) ∙ ap not (eq-eqb _ 1 c.if-number2-ne-FIRST.false) in
    rw (long, first)
