-- `number::number_of` meets its contract: what is spelled so far and the digits left spell the whole. Assumes nothing.
use mathlib.Core.Path.{◌≡◌, refl, sym, ap, ◌∙◌}
use mathlib.Core.Bool.{true, not}
use Prim.Native.Nat.{ℕ, ◌-◌, ◌≤◌}
use native.Mathlib.Omega.{arith}
use native.Mathlib.Numerals.{add-one}
use lib.ListN.{length, get_or}
use borrow.Author.Tests.{not-true, not-false, lt-ltb, le-ltb}
use Rattle.rules.specs.Below.{within}
use Rattle.rules.proofs.EachKind.{within-true}
use Rattle.naming.specs.Named.{longest_number}
use Rattle.naming.proofs.Spelling.{digit-on, no_digit, digits-end, one_more, few-digits}
use Rattle.naming.proofs.number.number_of.Goals as goal
use Rattle.naming.proofs.number.number_of.Goals.{Else-outside}

pub returns-then-word-gt-LONGEST : goal.returns-then-word-gt-LONGEST
returns-then-word-gt-LONGEST c = rw (lt-ltb _ _ c.if-word-gt-LONGEST.true)

pub loop-byte-init : goal.loop-byte-init
loop-byte-init c = (omega arith, omega arith, refl)

pub returns-then-outside : goal.returns-then-outside
returns-then-outside c =
    let digit = c.from-digit.ensures in
    let other = not-true _ (ap (λ d. not (within 48 d 57)) (sym digit) ∙ sym c.outside.ensures ∙ c.if-outside.true) in
    rw (le-ltb longest_number (length c.args.word.now) c.loop-byte.invariant.1)
    (sym (sym c.loop-byte.invariant.2 ∙ no_digit c.loop-byte.number c.args.word.now c.loop-byte.byte-index (omega arith) other))

-- what the second test leaves
abbrev byte : (c : Else-outside) → ℕ
byte c =
    get_or c.args.word.now c.loop-byte.byte-index 0

found : (c : Else-outside) → within 48 (byte c) 57 ≡ true
found c = not-false (within 48 (byte c) 57) (ap (λ d. not (within 48 d 57)) (sym c.from-digit.ensures) ∙ sym c.outside.ensures ∙ c.if-outside.false)

digit-in : (c : Else-outside) → (48 ≤ byte c) × (byte c ≤ 57)
digit-in c = within-true 48 (byte c) 57 (found c)

pub overflow_mul-number : goal.overflow_mul-number
overflow_mul-number c =
    omega (arith, c.loop-byte.invariant.0, few-digits c.loop-byte.byte-index (omega (arith, c.loop-byte.invariant.1)))

pub overflow_sub-number : goal.overflow_sub-number
overflow_sub-number c = omega (arith, digit-in ((goal.at.overflow_sub-number c).Else-outside))

pub overflow_add-number : goal.overflow_add-number
overflow_add-number c =
    omega (arith, digit-in ((goal.at.overflow_add-number c).Else-outside), c.loop-byte.invariant.0, few-digits c.loop-byte.byte-index (omega (arith, c.loop-byte.invariant.1)))

pub loop-byte-preserved : goal.loop-byte-preserved
loop-byte-preserved c = (
  rw (add-one, c.from-digit.ensures) (one_more c.loop-byte.number c.loop-byte.byte-index (byte ((goal.at.loop-byte-preserved c).Else-outside) - 48) c.loop-byte.invariant.0 (omega (arith, digit-in ((goal.at.loop-byte-preserved c).Else-outside)))),
  c.loop-byte.invariant.1,
  rw (add-one, c.from-digit.ensures) (digit-on c.loop-byte.number c.args.word.now c.loop-byte.byte-index (omega arith) (found ((goal.at.loop-byte-preserved c).Else-outside)) ∙ c.loop-byte.invariant.2),
)

pub returns : goal.returns
returns c =
    rw (le-ltb longest_number (length c.args.word.now) c.loop-byte.invariant.1) (sym (sym c.loop-byte.invariant.2 ∙ digits-end c.loop-byte.number c.args.word.now c.loop-byte.byte-index (omega arith)))
