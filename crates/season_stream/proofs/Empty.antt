-- Before the first file: no kind has counted anything, so there is room for a file. Assumes nothing.
use mathlib.Core.Path.{◌≡◌, refl}
use mathlib.Core.List.{[]}
use Prim.Native.Nat.{ℕ, suc}
use native.Mathlib.Decide.{dec_lt}
use native.Mathlib.Omega.{arith}
use lib.ListN.{get_or, get_or-eq_default}
use Rattle.rules.specs.Below.{total}
use Rattle.rules.proofs.Lists.{below_length, below_get}
use Rattle.totals.specs.declared.Totals.{Totals}
use Rattle.rules.specs.Refusal.{last_kind}
use Rattle.totals.specs.Season.{chosen, some_of, singles_from, tally_of, kinds_of, totals_of}
use Rattle.totals.specs.Plus.{no_tally}
use Rattle.totals.specs.Room.{RoomTally, Open}

no-tally : (k : ℕ) → get_or (kinds_of []) k no_tally ≡ no_tally
unfolding chosen some_of total
no-tally k =
    elim (dec_lt k last_kind) [
      | yes l ↦ below_get last_kind (λ j. tally_of (suc j) []) no_tally k l
      | no g ↦ get_or-eq_default (kinds_of []) no_tally {n = k} (omega (arith, below_length last_kind (λ j. tally_of (suc j) [])))
    ]

none-room : RoomTally 0 no_tally
none-room = record {
  answered = omega arith;
  refused = record { three = omega arith; four = omega arith; five = omega arith; six = omega arith };
  lowest = record { low = omega arith; unit = omega arith };
  widths = record { binary = omega arith; decimal = omega arith };
}

pub none-decks : {t : Totals} → t ≡ totals_of [] → t.decks ≡ 0
unfolding totals_of chosen
none-decks is = rw is refl

pub none_open : {t : Totals} → t ≡ totals_of [] → Open t
unfolding totals_of singles_from chosen
none_open is = rw is (record {
  none = refl;
  few = omega arith;
  room = record { other = omega arith; eight = below_length last_kind _; kinds = λ k. rw (no-tally k) none-room };
})
