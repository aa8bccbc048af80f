-- What deckspare prints of a system: `system S fan F lower L upper U` for each fan of its stretch, or `system S refused R`. And the room that each line takes at most.
use Rattle.std.specs.Prelude.{◌≡◌, List, ◌++◌, ℕ, ◌+◌, ◌*◌, ◌^◌, ◌≤◌, length, get_or}
use Rattle.std.proofs.Math.IntN.{sub_ℕ}
use Rattle.rules.specs.State.{S}
use Rattle.rules.specs.Asked.{Asked, size_of, low_of, high_of}
use Rattle.rules.specs.Refusal.{most}
use Rattle.places.specs.declared.Ends.{Ends}
use Rattle.text.specs.Decimal.{text}
use Rattle.text.specs.Lines.{named, named_room, pair_text, pair_room, signed_pair, signed_pair_room, refused_text, refused_room}
use Rattle.printing.specs.Lines.{lines_text}
use Rattle.spares.specs.declared.Places.{Places}
use Rattle.spares.specs.Places.{low_with, high_with}

-- the figures of a place, of a stretch as it is, and with the spare in the i-th place of a stretch
abbrev pub ends_of : (low high : ℕ) → Ends
ends_of low high = record { low = low; high = high }

abbrev pub now_of : Asked → Ends
now_of q = ends_of (low_of q) (high_of q)

abbrev pub after_of : Asked → (p i : ℕ) → Ends
after_of q p i = ends_of (low_with q p i) (high_with q p i)

-- the gain's two ends: low after less high before, high after less low before (`gainLower`, `gainUpper`)
abbrev pub gain_ends : (after before : Ends) → List ℕ
gain_ends after before = signed_pair (text " lower ") (sub_ℕ after.low before.high) (text " upper ") (sub_ℕ after.high before.low) ++ text "\n"

abbrev pub gain_line : (system fan : ℕ) (after before : Ends) → List ℕ
gain_line system fan after before = pair_text (text "system ") system (text " fan ") fan ++ gain_ends after before

abbrev pub gain_room : ℕ
gain_room = pair_room (text "system ") (text " fan ") + signed_pair_room (text " lower ") (text " upper ") + 1

-- "for each fan of its stretch": of a stretch, and of the figures in arrays
abbrev pub gains_text : (system p : ℕ) → Asked → List ℕ
gains_text system p q = lines_text (size_of q) (λ i. gain_line system (q.a + i) (after_of q p i) (now_of q))

abbrev pub place_in : Places → ℕ → Ends
place_in places i = ends_of (get_or places.low i 0) (get_or places.high i 0)

abbrev pub gain_lines : (system a size : ℕ) → Places → (before : Ends) → List ℕ
gain_lines system a size places before = lines_text size (λ i. gain_line system (a + i) (place_in places i) before)

abbrev pub gains_room : ℕ
gains_room = gain_room * most

-- "or the refusal"
abbrev pub refused_line : (system number : ℕ) → List ℕ
refused_line system number = named (text "system ") system ++ refused_text number

-- figures that can be subtracted, and a stretch that lies on a deck
pub record FewPlaces (a size : ℕ) (places : Places) : Type 0 where
  pub few : (size ≤ most) × (a + size ≤ 2 ^ 32)
  pub long : (length places.low ≡ most) × (length places.high ≡ most)

pub record InUnit (places : Places) (before : Ends) : Type 0 where
  pub after : (i : ℕ) → (get_or places.low i 0 ≤ S) × (get_or places.high i 0 ≤ S)
  pub now : (before.low ≤ S) × (before.high ≤ S)
