-- `system::lists_why` takes the tests of `why_of`: 1, then the stretch. Assumes nothing.
use mathlib.Core.Path.{sym, ◌∙◌}
use borrow.Author.Tests.{eq-eqb, ne_eqb}
use Rattle.advice.specs.System.{why_of}
use Rattle.advice.proofs.system.lists_why.Goals as goal

pub returns-then-number-eq-KIND : goal.returns-then-number-eq-KIND
unfolding why_of
returns-then-number-eq-KIND c =
    rw (eq-eqb c.args.number 1 c.if-number-eq-KIND.true) c.because.ensures

pub returns-then-stretch_out : goal.returns-then-stretch_out
unfolding why_of
returns-then-stretch_out c =
    rw (ne_eqb c.args.number 1 c.if-number-eq-KIND.false, sym c.stretch_out.ensures ∙ c.if-stretch_out.true) c.because-then-stretch_out.ensures

pub rated_why-requires : goal.rated_why-requires
rated_why-requires c =
    record { stretch = sym c.stretch_out.ensures ∙ c.if-stretch_out.false; alike = c.requires.alike; few = c.requires.few }

pub returns : goal.returns
unfolding why_of
returns c =
    rw (ne_eqb c.args.number 1 c.if-number-eq-KIND.false, sym c.stretch_out.ensures ∙ c.if-stretch_out.false) c.rated_why.ensures
