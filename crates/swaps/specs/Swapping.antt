-- What is asked with a survival number in the place of one fan or of two, and when it can be rated.
use Rattle.std.specs.Prelude.{ℕ, ◌≤◌, ◌≡◌, false, List}
use Rattle.rules.specs.Asked.{Asked, unit_in}
use Rattle.rules.specs.Refusal.{figures_refusal}
use Rattle.rules.specs.Worth.{bad_fan}
use Rattle.rules.specs.Gain.{swapped_both}
use Rattle.swaps.specs.declared.Swap.{Swap}

abbrev pub swap_in : Swap → Asked → Asked
swap_in w q = swapped_both w.first w.second w.p q

-- what is asked is not refused, both fans are of the stretch, and the number is not above the unit
pub record Swappable (q : Asked) (w : Swap) (table : List ℕ) : Type 0 where
  pub none : figures_refusal q table ≡ 0
  pub first : bad_fan q w.first ≡ false
  pub second : bad_fan q w.second ≡ false
  pub small : w.p ≤ unit_in q
