-- `option_in` meets its contract: no row passed has the word for its name, so the rest tells. Assumes nothing.
use mathlib.Core.Path.{sym, ap, ◌∙◌}
use native.Mathlib.Nat.{sub-zero, div-mul-le_self}
use native.Mathlib.Omega.{arith}
use lib.ListN.{length}
use Rattle.options.specs.Words.{rows_of, option_from}
use Rattle.options.proofs.Table.{next-named, next-unnamed, none_named}
use Rattle.options.proofs.option_in.Goals as goal

pub loop-k-init : goal.loop-k-init
loop-k-init c =
    ap (λ n. option_from n 0 c.args.table.now c.args.word.now) (sub-zero (rows_of c.args.table.now))

pub row_is-requires : goal.row_is-requires
row_is-requires c = omega (arith, c.loop-k-test.true, div-mul-le_self (length c.args.table.now) 12)

pub returns-then-row_is : goal.returns-then-row_is
returns-then-row_is c =
    let named = next-named c.args.table.now c.args.word.now (rows_of c.args.table.now) c.loop-k.k c.loop-k-test.true (sym c.row_is.ensures ∙ c.if-row_is.true) in
    sym (sym c.loop-k.invariant ∙ named)

pub loop-k-preserved : goal.loop-k-preserved
loop-k-preserved c =
    let other = next-unnamed c.args.table.now c.args.word.now (rows_of c.args.table.now) c.loop-k.k c.loop-k-test.true (sym c.row_is.ensures ∙ c.if-row_is.false) in
    other ∙ c.loop-k.invariant

pub returns : goal.returns
returns c =
    sym (sym c.loop-k.invariant ∙ none_named c.args.table.now c.args.word.now (rows_of c.args.table.now) c.loop-k.k c.loop-k-test.false ∙ omega (arith, c.loop-k-test.false))
