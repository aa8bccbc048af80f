-- `hearing::hear` meets its contract: an option, or a word of the state. Assumes nothing.
use native.Mathlib.Omega.{arith}
use Rattle.deckstate.proofs.Words.{option-heard, operand-heard}
use Rattle.deckstate.proofs.hearing.hear.Goals as goal

pub returns-then-next-before : goal.returns-then-next-before
returns-then-next-before c =
    record { value = option-heard c.args.n c.args.g c.args.boards.now c.args.place c.args.word.now c.args.hearing c.hear-next.result c.hear-next.ensures.is c.if-next-before.true; sound_2 = (c.hear-next.ensures.sound, omega arith) }

pub returns : goal.returns
returns c =
    record { value = operand-heard c.args.n c.args.g c.args.boards.now c.args.place c.args.word.now c.args.hearing c.hear-next.result c.hear-next.ensures.is c.if-next-before.false _ c.hear_word-more.ensures; sound_2 = (c.hear-next.ensures.sound, omega arith) }
