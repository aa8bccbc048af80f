-- `percent::last_digits` meets its contract: what is left of the number spells the digits still to be written. Assumes nothing.
use mathlib.Core.Path.{sym, ◌∙◌}
use mathlib.Core.List.{append-nil}
use native.Mathlib.Omega.{arith}
use lib.ListN.{length, length-set}
use Rattle.percent.proofs.Digits.{digit-more, all_digits}
use Rattle.percent.proofs.last_digits.Goals as goal

pub places-init : goal.places-init
places-init c = (omega arith, omega arith, append-nil _)

pub overflow_sub-k : goal.overflow_sub-k
overflow_sub-k c = omega arith

pub overflow_cast-digits : goal.overflow_cast-digits
overflow_cast-digits c = omega arith

pub overflow_add-digits : goal.overflow_add-digits
overflow_add-digits c = omega arith

pub bounds-digits-k : goal.bounds-digits-k
bounds-digits-k c = omega arith

pub places-smaller : goal.places-smaller
places-smaller c = omega arith

pub places-preserved : goal.places-preserved
places-preserved c = (
  omega arith,
  length-set c.places.digits _ _ ∙ c.places.invariant.1,
  digit-more c.places.k c.places.left c.places.digits c.places-test.true (omega arith) ∙ c.places.invariant.2,
)

pub returns : goal.returns
returns c =
    sym (all_digits c.places.k c.places.left c.places.digits (omega arith)) ∙ c.places.invariant.2
