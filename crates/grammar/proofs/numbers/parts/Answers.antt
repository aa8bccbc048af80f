-- `numbers::parts` meets its contract: a whole number, or else a decimal. Assumes nothing.
use mathlib.Core.Path.{sym, ap, ◌∙◌}
use Rattle.grammar.specs.Numbers.{share}
use Rattle.grammar.proofs.Parts.{parts_whole, parts-decimal}
use Rattle.grammar.proofs.numbers.parts.Goals as goal

pub returns-then-number-ne-NONE : goal.returns-then-number-ne-NONE
returns-then-number-ne-NONE c = c.whole-number.ensures.0 ∙ sym (parts_whole _ _ (λ e. c.if-number-ne-NONE.true (c.whole-number.ensures.0 ∙ e)))

pub share-requires : goal.share-requires
share-requires c = c.fraction.ensures.1

pub returns : goal.returns
returns c =
    c.share.ensures ∙ ap (share c.args.version) c.fraction.ensures.0 ∙ sym (parts-decimal _ _ (sym c.whole-number.ensures.0 ∙ c.if-number-ne-NONE.false))
