-- A gain that is not refused: neither rating is, and the ends are the differences of their figures. Assumes nothing.
use Prim.Native.Nat.{ℕ, ◌≤◌}
use mathlib.Core.Path.{◌≡◌, ap₂, ◌∙◌}
use mathlib.Core.List.{List}
use lib.IntN.{sub_ℕ}
use lib.ListN.{length}
use Rattle.rules.specs.declared.Spare.{Spare}
use Rattle.rules.specs.declared.Worth.{Worth}
use Rattle.rules.specs.declared.Worth.TheVariants as ends
use Rattle.rules.specs.State.{S}
use Rattle.rules.specs.Asked.{Asked, unit_in}
use Rattle.rules.specs.Refusal.{cells, figures_refusal}
use Rattle.rules.specs.Worth.{swapped}
use Rattle.rules.specs.Gain.{gain_refusal, swapped_both}
use Rattle.rules.proofs.Sure.{swapped-accepted}
use Rattle.rules.proofs.Gain.{gain-accepted, gain-small, gain-chosen}
use Rattle.places.specs.Cells.{Kept}
use Rattle.places.specs.declared.Ends.{Ends}
use Rattle.places.proofs.Cells.{kept_trans}
use Rattle.stretches.specs.Outcome.{Worked}
use Rattle.swaps.specs.Swapping.{Swappable}
use Rattle.swaps.proofs.Replaced as swaps
use Rattle.gain.specs.Outcome.{Found}

module _ (q : Asked) (w : Spare) (table : List ℕ) (none : gain_refusal q w.fan w.p table ≡ 0) where
  accepted : figures_refusal q table ≡ 0
  accepted = gain-accepted q w.fan w.p table none

  small : w.p ≤ unit_in q
  small = gain-small q w.fan w.p table none

  pub room : cells ≤ length table
  room = swaps.room q table accepted

  pub swappable : Swappable q (record { first = w.fan; second = w.fan; p = w.p }) table
  swappable = let in-it = gain-chosen q w.fan w.p table none in record { none = accepted; first = in-it; second = in-it; small = small }

  -- the rating as it is, in the table as the other has left it
  pub as-it-is : (later : List ℕ) → Kept table later → figures_refusal q later ≡ 0
  as-it-is = swaps.kept-accepted q table accepted

  module _ {t t' : List ℕ} {after before : Ends} (a : Worked (swapped_both w.fan w.fan w.p q) table t after) (b : Worked q t t' before) where
    pub after-within : (after.low ≤ S) × (after.high ≤ S)
    after-within = swaps.rated-within (swapped w.fan w.p q) table (swapped-accepted q table w.fan w.p accepted small) (swaps.worked-once w.fan w.p q a)

    pub before-within : (before.low ≤ S) × (before.high ≤ S)
    before-within = swaps.rated-within q table accepted b

    pub found : {r : Worth} → r ≡ ends.Ends (sub_ℕ after.low before.high) (sub_ℕ after.high before.low) → Found q w table t' r
    found is =
        let once = swaps.worked-once w.fan w.p q a in
        record { ends = is ∙ ap₂ ends.Ends (ap₂ sub_ℕ once.low b.high) (ap₂ sub_ℕ once.high b.low); kept = kept_trans a.kept b.kept }
