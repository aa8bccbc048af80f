-- `counts` refuses as the list of refusals does and writes nothing then; else it fills the room and clears the table. Assumes nothing.
use native.Mathlib.Omega.{arith}
use mathlib.Core.Path.{refl, sym, ◌∙◌}
use Rattle.rules.proofs.Numbers.{number-some}
use Rattle.counts.proofs.Call.{countable, refused, counted}
use borrow.Author.Rules.{rules}
use Rattle.counts.proofs.counts.Goals as goal

pub returns-in-Err : goal.returns-in-Err
returns-in-Err c = refused _ _ _ _ _ (c.number.ensures ∙ c.in-Err.ensures) (λ none. number-some _ (sym c.number.ensures ∙ none))

pub tally-requires : goal.tally-requires
tally-requires c = countable _ _ _ _ _ c.in_default.ensures refl

pub zero-requires : goal.zero-requires
zero-requires c =
    let able = countable c.args.rule c.args.n c.args.weights.now c.args.table.now c.args.room.now c.in_default.ensures refl in
    omega (arith, able.long, c.tally.ensures.used.long)

pub returns : goal.returns
returns c =
    counted _ _ _ _ _ c.in_default.ensures refl c.tally.ensures c.zero.ensures
