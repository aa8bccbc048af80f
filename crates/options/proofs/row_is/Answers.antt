-- `row_is` meets its contract: the bytes passed are the same, so the rest tells. Assumes nothing.
use mathlib.Core.Path.{refl, sym, ◌∙◌}
use Prim.Native.Nat.{◌*◌}
use native.Mathlib.Omega.{arith}
use borrow.Author.Tests.{le-leb, lt-leb}
use Rattle.options.specs.Words.{name_length, row_length}
use Rattle.options.proofs.Table.{next-same, next-other, none_left}
use Rattle.options.proofs.row_is.Goals as goal

pub returns-then-word-gt-NAME : goal.returns-then-word-gt-NAME
returns-then-word-gt-NAME c = simp (lt-leb _ _ c.if-word-gt-NAME.true)

pub loop-j-init : goal.loop-j-init
loop-j-init c = refl

pub returns-then-table-k : goal.returns-then-table-k
returns-then-table-k c =
    let byte = next-other c.args.table.now (row_length * c.args.k) c.args.word.now name_length c.loop-j.j (omega arith) (λ e. c.if-table-k.true (e ∙ sym c.byte_of.ensures)) in
    simp (le-leb _ _ c.if-word-gt-NAME.false, sym c.loop-j.invariant ∙ byte)

pub loop-j-preserved : goal.loop-j-preserved
loop-j-preserved c =
    next-same c.args.table.now (row_length * c.args.k) c.args.word.now name_length c.loop-j.j (omega arith) (c.if-table-k.false ∙ c.byte_of.ensures) ∙ c.loop-j.invariant

pub returns : goal.returns
returns c =
    let all = none_left c.args.table.now (row_length * c.args.k) c.args.word.now name_length c.loop-j.j (omega arith) in
    simp (le-leb _ _ c.if-word-gt-NAME.false, sym c.loop-j.invariant ∙ all)
