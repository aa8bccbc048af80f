-- `hearing::fans_heard` meets its contract: the fans that the word names have failed, or it is wrong. Assumes nothing.
use mathlib.Core.Path.{◌∙◌}
use Rattle.deckstate.proofs.Words.{fans-wrong, fans-right}
use Rattle.deckstate.proofs.hearing.fans_heard.Goals as goal

pub returns-then-named : goal.returns-then-named
returns-then-named c =
    c.faulty.ensures ∙ fans-wrong c.args.n c.args.at c.args.word.now c.args.state c.name_fans-named.result c.name_fans-named.ensures c.if-named.true

pub returns : goal.returns
returns c =
    c.sound.ensures ∙ fans-right c.args.n c.args.at c.args.word.now c.args.state c.name_fans-named.result c.name_fans-named.ensures c.if-named.false
