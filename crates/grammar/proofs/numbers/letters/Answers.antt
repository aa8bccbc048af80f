-- `numbers::letters` meets its contract: a turn takes a letter more. Assumes nothing.
use mathlib.Core.Path.{sym, ◌∙◌}
use native.Mathlib.Numerals.{add-one}
use native.Mathlib.Omega.{arith}
use Rattle.grammar.proofs.Reading.{letter-on, letters-end}
use Rattle.grammar.proofs.numbers.letters.Goals as goal

pub loop-letter-preserved : goal.loop-letter-preserved
loop-letter-preserved c =
    rw (add-one, c.with_letter-number.ensures) (c.loop-letter.invariant ∙ letter-on c.args.word.now c.loop-letter.letter-index c.loop-letter-test.true c.loop-letter.number)

pub returns : goal.returns
returns c = sym (c.loop-letter.invariant ∙ letters-end c.args.word.now c.loop-letter.letter-index (omega (arith, c.loop-letter-test.false)) c.loop-letter.number)
