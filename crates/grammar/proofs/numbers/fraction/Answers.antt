-- `numbers::fraction` meets its contract, test by test. Assumes nothing.
use mathlib.Core.Path.{sym, ap, ap₂, ◌∙◌}
use Prim.Native.Nat.{◌+◌, ◌-◌}
use lib.ListN.{length}
use lib.Seq.{length-take-le}
use Rattle.grammar.specs.Numbers.{joined, whole, decimal_at}
use Rattle.grammar.proofs.Parts.{rest_all, no-digits, many-digits, above-one, in-billionths}
use native.Mathlib.Omega.{arith}
use Rattle.grammar.proofs.numbers.fraction.Goals as goal

pub overflow_sub-length : goal.overflow_sub-length
overflow_sub-length c = omega (arith, c.point-at.ensures.1)

pub returns-then-length-at-lt2 : goal.returns-then-length-at-lt2
returns-then-length-at-lt2 c =
    (sym (ap (decimal_at c.args.word.now) (sym c.point-at.ensures.0) ∙ no-digits c.args.word.now c.point-at.result c.if-length-at-lt2.true), omega arith)

pub overflow_add-from : goal.overflow_add-from
overflow_add-from c = omega (arith, c.if-length-at-lt2.false)

pub overflow_sub-digits : goal.overflow_sub-digits
overflow_sub-digits c = omega (arith, c.if-length-at-lt2.false)

pub returns-then-digits-gt-MOST_DIGITS : goal.returns-then-digits-gt-MOST_DIGITS
returns-then-digits-gt-MOST_DIGITS c =
    (sym (ap (decimal_at c.args.word.now) (sym c.point-at.ensures.0) ∙ many-digits c.args.word.now c.point-at.result c.if-length-at-lt2.false c.if-digits-gt-MOST_DIGITS.true), omega arith)

pub slice_bounds-whole-end : goal.slice_bounds-whole-end
slice_bounds-whole-end c =
    omega (arith, length-take-le c.point-at.result c.args.word.now c.point-at.ensures.1)

pub slice_bounds-whole-count : goal.slice_bounds-whole-count
slice_bounds-whole-count c = omega (arith, c.if-length-at-lt2.false)

pub joined-value-requires : goal.joined-value-requires
joined-value-requires c = (c.whole-before.ensures.1, c.whole-behind.ensures.1, c.if-digits-gt-MOST_DIGITS.false)

pub returns-then-value-gt-DECIMAL : goal.returns-then-value-gt-DECIMAL
returns-then-value-gt-DECIMAL c =
    let at = c.point-at.result in let is = c.joined-value.ensures ∙ ap₂ (λ b h. joined b h (length c.args.word.now - (at + 1))) c.whole-before.ensures.0 (c.whole-behind.ensures.0 ∙ ap whole (rest_all c.args.word.now (at + 1))) in (sym (ap (decimal_at c.args.word.now) (sym c.point-at.ensures.0) ∙ above-one c.args.word.now at c.if-length-at-lt2.false c.if-digits-gt-MOST_DIGITS.false c.joined-value.result is c.if-value-gt-DECIMAL.true), omega arith)

pub returns : goal.returns
returns c =
    let at = c.point-at.result in let is = c.joined-value.ensures ∙ ap₂ (λ b h. joined b h (length c.args.word.now - (at + 1))) c.whole-before.ensures.0 (c.whole-behind.ensures.0 ∙ ap whole (rest_all c.args.word.now (at + 1))) in (sym (ap (decimal_at c.args.word.now) (sym c.point-at.ensures.0) ∙ in-billionths c.args.word.now at c.if-length-at-lt2.false c.if-digits-gt-MOST_DIGITS.false c.joined-value.result is c.if-value-gt-DECIMAL.false), omega (arith, c.if-value-gt-DECIMAL.false))
