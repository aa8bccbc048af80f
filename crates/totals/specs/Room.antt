-- Totals with room for more: no count has passed the number of answers that it counts, and no sum of widths that number of units.
use Rattle.std.specs.Prelude.{◌≡◌, ℕ, ◌*◌, ◌-◌, ◌≤◌, ◌<◌, length, get_or}
use Rattle.rules.specs.declared.Rating.{Rating}
use Rattle.rules.specs.declared.Rating.TheVariants.{Range, Refused}
use Rattle.rules.specs.State.{S}
use Rattle.rules.specs.File.{most_systems}
use Rattle.totals.specs.declared.tally.Refusals.{Refusals}
use Rattle.totals.specs.declared.tally.Lowest.{Lowest}
use Rattle.totals.specs.declared.tally.Widths.{Widths}
use Rattle.totals.specs.declared.tally.Tally.{Tally}
use Rattle.totals.specs.declared.Totals.{Totals}
use Rattle.rules.specs.Refusal.{last_kind}
use Rattle.totals.specs.Plus.{no_tally}

-- "at most 10,000 files are read", and the answers that so many can have
abbrev pub most_files : ℕ
most_files = 10000

abbrev pub most_answers : ℕ
most_answers = most_systems * most_files

-- those that they can have had before the last file
abbrev pub answers_before : ℕ
answers_before = most_systems * (most_files - 1)

-- after n answers
pub record RoomRefusals (n : ℕ) (t : Refusals) : Type 0 where
  pub three : t.three ≤ n
  pub four : t.four ≤ n
  pub five : t.five ≤ n
  pub six : t.six ≤ n

pub record RoomLowest (t : Lowest) : Type 0 where
  pub low : t.low ≤ S
  pub unit : t.unit ≤ S

pub record RoomWidths (n : ℕ) (t : Widths) : Type 0 where
  pub binary : t.binary ≤ n * S
  pub decimal : t.decimal ≤ n * S

pub record RoomTally (n : ℕ) (t : Tally) : Type 0 where
  pub answered : t.answered ≤ n
  pub refused : RoomRefusals n t.refused
  pub lowest : RoomLowest t.lowest
  pub widths : RoomWidths n t.widths

pub record Room (n : ℕ) (t : Totals) : Type 0 where
  pub other : t.other ≤ n
  pub eight : length t.kinds ≡ last_kind
  pub kinds : (k : ℕ) → RoomTally n (get_or t.kinds k no_tally)

-- totals that another file can be added to: none was refused, which would have ended the reading
pub record Open (t : Totals) : Type 0 where
  pub none : t.refused ≡ 0
  pub few : t.decks < most_files
  pub room : Room (most_systems * t.decks) t

-- an answer whose ends stand in their order within the larger unit
abbrev pub Fair : Rating → Type 0
Fair (Range low high) = (low ≤ high) × (high ≤ S)
Fair (Refused number) = Unit {0}
