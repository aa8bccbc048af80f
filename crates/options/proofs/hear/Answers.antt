-- `hear` meets its contract, case by case, and what is asked stays within the table. Assumes nothing.
use mathlib.Core.Path.{sym, subst, ◌∙◌}
use native.Mathlib.Omega.{arith}
use Rattle.options.specs.Words.{Sound}
use Rattle.options.proofs.Heard.{no-work, some-work, past-deciding, a-value, an-option, an-operand, giving, with-operand, with-option}
use Rattle.options.proofs.hear.Goals as goal

pub returns-then-ne : goal.returns-then-ne
returns-then-ne c =
    record { is = sym (past-deciding c.args.table.now c.args.most c.args.asked c.args.place c.args.word.now (no-work _ (sym c.ne.ensures ∙ c.if-ne.true))); sound = c.requires.1 }

pub overflow_sub-asked : goal.overflow_sub-asked
overflow_sub-asked c = omega (arith, c.if-asked-ne0.true)

pub give-requires : goal.give-requires
give-requires c =
    (omega (arith, c.requires.1.waiting, c.if-asked-ne0.true), c.requires.1)

pub returns-then-asked-ne0 : goal.returns-then-asked-ne0
returns-then-asked-ne0 c =
    record { is = c.give.ensures ∙ sym (a-value c.args.table.now c.args.most c.args.asked c.args.place c.args.word.now (some-work _ (sym c.ne.ensures ∙ c.if-ne.false)) c.if-asked-ne0.true); sound = subst Sound (sym c.give.ensures) (giving c.args.asked c.requires.1 _ 0 c.args.place (omega arith)) }

pub returns-then-is_option : goal.returns-then-is_option
returns-then-is_option c =
    let said = sym c.is_option.ensures ∙ c.if-is_option.true in
    record { is = c.option.ensures ∙ sym (an-option c.args.table.now c.args.most c.args.asked c.args.place c.args.word.now (some-work _ (sym c.ne.ensures ∙ c.if-ne.false)) c.if-asked-ne0.false said); sound = subst Sound (sym c.option.ensures) (with-option c.args.asked c.requires.1 c.args.table.now c.args.place c.args.word.now c.requires.0) }

pub returns : goal.returns
returns c =
    let said = sym c.is_option.ensures ∙ c.if-is_option.false in
    record { is = c.operand.ensures ∙ sym (an-operand c.args.table.now c.args.most c.args.asked c.args.place c.args.word.now (some-work _ (sym c.ne.ensures ∙ c.if-ne.false)) c.if-asked-ne0.false said); sound = subst Sound (sym c.operand.ensures) (with-operand c.args.asked c.requires.1 c.args.most c.args.place) }
