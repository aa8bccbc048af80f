-- A worth that is not refused: neither rating is, and the ends are the differences of their figures. Assumes nothing.
use Prim.Native.Nat.{ℕ, ◌≤◌}
use mathlib.Core.Path.{◌≡◌, sym, ap₂, ◌∙◌}
use mathlib.Core.Bool.{false}
use mathlib.Core.List.{List}
use lib.IntN.{sub_ℕ}
use lib.ListN.{length}
use Rattle.rules.specs.declared.Worth.{Worth}
use Rattle.rules.specs.declared.Worth.TheVariants as ends
use Rattle.rules.specs.State.{S}
use Rattle.rules.specs.Asked.{Asked, unit_in}
use Rattle.rules.specs.Refusal.{cells, figures_refusal}
use Rattle.rules.specs.Worth.{swapped, bad_fan, worth_refusal}
use Rattle.rules.specs.Gain.{swapped_both}
use Rattle.rules.proofs.Unless.{after_none}
use Rattle.rules.proofs.Sure.{after_first, chosen-fan, swapped-accepted}
use Rattle.places.specs.Cells.{Kept}
use Rattle.places.specs.declared.Ends.{Ends}
use Rattle.places.proofs.Cells.{kept_trans}
use Rattle.stretches.specs.Outcome.{Worked}
use Rattle.swaps.specs.Swapping.{Swappable}
use Rattle.swaps.proofs.Replaced as swaps
use Rattle.worth.specs.Outcome.{Found}

module _ (q : Asked) (fan : ℕ) (table : List ℕ) (none : worth_refusal q fan table ≡ 0) where
  accepted : figures_refusal q table ≡ 0
  accepted = after_first _ _ none

  chosen : bad_fan q fan ≡ false
  chosen = chosen-fan (bad_fan q fan) (sym (after_none _ _ accepted) ∙ none)

  pub room : cells ≤ length table
  room = swaps.room q table accepted

  -- the fan with any number that is not above the unit, in the table as it was lent or as a rating has left it
  pub swappable : (p : ℕ) → p ≤ unit_in q → (later : List ℕ) → Kept table later → Swappable q (record { first = fan; second = fan; p = p }) later
  swappable p small later k = record { none = swaps.kept-accepted q table accepted later k; first = chosen; second = chosen; small = small }

  pub within : (p : ℕ) → p ≤ unit_in q → {t₀ t : List ℕ} {r : Ends} → Worked (swapped_both fan fan p q) t₀ t r → (r.low ≤ S) × (r.high ≤ S)
  within p small w = swaps.rated-within (swapped fan p q) table (swapped-accepted q table fan p accepted small) (swaps.worked-once fan p q w)

  pub found : {u : ℕ} → u ≡ unit_in q → {t t' : List ℕ} {works fails : Ends} {r : Worth} → Worked (swapped_both fan fan u q) table t works → Worked (swapped_both fan fan 0 q) t t' fails
      → r ≡ ends.Ends (sub_ℕ works.low fails.high) (sub_ℕ works.high fails.low) → Found q fan table t' r
  found {u} unit w f is =
      let works = rw unit at (swaps.worked-once fan u q w) in
      let fails = swaps.worked-once fan 0 q f in
      record { ends = is ∙ ap₂ ends.Ends (ap₂ sub_ℕ works.low fails.high) (ap₂ sub_ℕ works.high fails.low); kept = kept_trans w.kept f.kept }
