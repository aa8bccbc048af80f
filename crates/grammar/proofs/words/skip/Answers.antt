-- `words::skip` meets its contract: the words from where it stands are those from where it began. Assumes nothing.
use mathlib.Core.Path.{◌≡◌, sym, ◌∙◌}
use native.Mathlib.Numerals.{add-one}
use lib.ListN.{length}
use Rattle.grammar.proofs.Walking.{skip-on}
use native.Mathlib.Omega.{arith}
use Rattle.grammar.proofs.words.skip.Goals as goal

pub returns-then-not-is_blank : goal.returns-then-not-is_blank
returns-then-not-is_blank c = record { low = omega arith; high = omega arith; words = c.loop-i.invariant; stops = λ _. sym c.is_blank.ensures ∙ c.if-not-is_blank.true }

pub loop-i-preserved : goal.loop-i-preserved
loop-i-preserved c =
    let b = sym c.is_blank.ensures ∙ c.if-not-is_blank.false in
    rw add-one (skip-on c.args.line.now c.loop-i.i c.loop-i-test.true b ∙ c.loop-i.invariant)

pub returns : goal.returns
returns c =
    let e : c.loop-i.i ≡ length c.args.line.now = omega (arith, c.loop-i-test.false) in
    record { low = omega arith; high = omega arith; words = rw e at c.loop-i.invariant; stops = λ h. absurd (omega (arith, h)) }
