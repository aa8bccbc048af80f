-- What deckspare prints of a system's best places: a line for each place of a group of places that are alike, with the group's rank, how many are alike, and the figures after
-- the swap; whole groups until so many places are named. And the room that they take at most.
use Rattle.std.specs.Prelude.{◌≡◌, Bool, false, cond, List, [], ◌++◌, ℕ, ◌+◌, ◌*◌, ◌^◌, ◌≤◌, ◌<◌, ltb, length, get_or}
use Rattle.rules.specs.Below.{held}
use Rattle.rules.specs.State.{S}
use Rattle.rules.specs.Asked.{Asked, size_of}
use Rattle.rules.specs.Refusal.{most}
use Rattle.units.specs.Step.{whole}
use Rattle.places.specs.declared.Ends.{Ends}
use Rattle.text.specs.Decimal.{text}
use Rattle.text.specs.Lines.{pair_text, pair_room}
use Rattle.printing.specs.Lines.{lines_text}
use Rattle.spares.specs.declared.Places.{Places}
use Rattle.spares.specs.Places.{up_to, low_with, high_with}
use Rattle.pair_lines.specs.Rated.{rated_text, rated_room}
use Rattle.spare_lines.specs.declared.best.Shown.{Shown}
use Rattle.spare_lines.specs.Lines.{ends_of, now_of, place_in}
use Rattle.spare_lines.specs.Ranks.{Ranked, alike, rest, group_at, gone_after, left_in}

-- the places of a stretch with a spare in each, and those whose figures are in arrays
abbrev pub ranked_of : Asked → (p : ℕ) → Ranked
ranked_of q p = record { size = size_of q; low = up_to (size_of q) (low_with q p); high = up_to (size_of q) (high_with q p); before = now_of q }

abbrev pub ranked_in : (size : ℕ) → Places → (before : Ends) → Ranked
ranked_in size places before = record { size = size; low = λ i. get_or places.low i 0; high = λ i. get_or places.high i 0; before = before }

-- a group and the rest in arrays
pub record Grouped (k : Ranked) (left : ℕ → Bool) (lefts group : List Bool) (n : ℕ) : Type 0 where
  pub long : (length lefts ≡ most) × (length group ≡ most)
  pub others : (i : ℕ) → i < k.size → left_in lefts i ≡ rest k left i
  pub members : (i : ℕ) → i < k.size → get_or group i false ≡ alike k left i
  pub count : n ≡ held (alike k left) k.size

-- `system S rank R alike N fan F low L high H X% to Y%`
abbrev pub fan_text : (u count fan : ℕ) → Ends → List ℕ
fan_text u count fan after = pair_text (text " alike ") count (text " fan ") fan ++ rated_text u after.low after.high

abbrev pub place_text : Shown → (rank count fan : ℕ) → Ends → List ℕ
place_text shown rank count fan after =
    pair_text (text "system ") shown.s (text " rank ") rank ++ fan_text (whole shown.decimal) count fan after

abbrev pub place_if : (named : Bool) → Shown → (rank count fan : ℕ) → Ends → List ℕ
place_if named shown rank count fan after = cond named (place_text shown rank count fan after) []

abbrev pub place_room : ℕ
place_room = pair_room (text "system ") (text " rank ") + pair_room (text " alike ") (text " fan ") + rated_room

-- a group's lines; of figures and of a group in arrays
abbrev pub group_text : Shown → (rank : ℕ) → Ranked → (group : ℕ → Bool) → List ℕ
group_text shown rank k group =
    lines_text k.size (λ i. place_if (group i) shown rank (held group k.size) (shown.a + i) (ends_of (k.low i) (k.high i)))

abbrev pub group_in : Shown → (rank count : ℕ) (group : List Bool) → Places → List ℕ
group_in shown rank count group places =
    lines_text shown.size (λ i. place_if (get_or group i false) shown rank count (shown.a + i) (place_in places i))

abbrev pub group_room : (size : ℕ) (group : List Bool) → ℕ
group_room size group = place_room * held (λ i. get_or group i false) size

-- those of all groups that begin before so many places are named
abbrev pub round_text : Shown → (best : ℕ) → Ranked → (r : ℕ) → List ℕ
round_text shown best k r = cond (ltb (gone_after k r) best) (group_text shown (gone_after k r + 1) k (group_at k r)) []

abbrev pub best_text : Shown → (best : ℕ) → Ranked → List ℕ
best_text shown best k = lines_text k.size (round_text shown best k)

abbrev pub best_room : ℕ
best_room = place_room * most

-- a stretch that lies on a deck, and figures in percent
pub record Few (shown : Shown) (places : Places) : Type 0 where
  pub few : (shown.size ≤ most) × (shown.a + shown.size ≤ 2 ^ 32)
  pub long : (length places.low ≡ most) × (length places.high ≡ most)

pub record Within (places : Places) : Type 0 where
  pub after : (i : ℕ) → (get_or places.low i 0 ≤ S) × (get_or places.high i 0 ≤ S)
