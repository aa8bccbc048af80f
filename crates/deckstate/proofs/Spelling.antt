-- The decimal digits of every number that a fan or a board can have spell that number. Assumes nothing.
use mathlib.Core.Path.{◌≡◌, refl}
use Rattle.rules.specs.Below.{list_below}
use Rattle.text.specs.Decimal.{digits_in, decimal}
use Rattle.naming.specs.Named.{spelled, number_in}

pub spelled_back : list_below 65 (λ f. number_in (decimal f)) ≡ list_below 65 (λ f. f)
unfolding list_below spelled digits_in
spelled_back = refl
