-- What deckspare prints of a system for two spares: `system S fans F and G low L high H X% to Y%`, the best two places with the figures after the swap, or
-- `system S has one fan`. And the room that it takes at most.
use Rattle.std.specs.Prelude.{cond, List, ◌++◌, ℕ, ◌+◌, ◌^◌, ◌≤◌, eqb}
use Rattle.rules.specs.State.{S}
use Rattle.rules.specs.Asked.{Asked, unit_in, size_of}
use Rattle.text.specs.Decimal.{text}
use Rattle.text.specs.Lines.{named, named_room, pair_text, pair_room}
use Rattle.pairs.specs.declared.Best.{Best}
use Rattle.pairs.specs.Pairs.{low_with_both, high_with_both, first_place, second_place}
use Rattle.pair_lines.specs.Rated.{rated_text, rated_room}

abbrev pub second_text : (u second low high : ℕ) → List ℕ
second_text u second low high = named (text " and ") second ++ rated_text u low high

abbrev pub fans_text : (u system first second low high : ℕ) → List ℕ
fans_text u system first second low high = pair_text (text "system ") system (text " fans ") first ++ second_text u second low high

abbrev pub one_text : (system : ℕ) → List ℕ
one_text system = named (text "system ") system ++ text " has one fan\n"

-- the best pair of a stretch by its two places
abbrev pub places_text : (system p : ℕ) → Asked → (i j : ℕ) → List ℕ
places_text system p q i j = fans_text (unit_in q) system (q.a + i) (q.a + j) (low_with_both q p i j) (high_with_both q p i j)

abbrev pub best_text : (system p : ℕ) → Asked → List ℕ
best_text system p q = places_text system p q (first_place (low_with_both q p) (size_of q)) (second_place (low_with_both q p) (size_of q))

abbrev pub two_text : (system p : ℕ) → Asked → List ℕ
two_text system p q = cond (eqb q.a q.b) (one_text system) (best_text system p q)

abbrev pub two_room : ℕ
two_room = pair_room (text "system ") (text " fans ") + named_room (text " and ") + rated_room

-- a pair of a stretch that lies on a deck, and figures in percent
pub record FewFans (a : ℕ) (b : Best) : Type 0 where
  pub few : (a + b.first ≤ 2 ^ 32) × (a + b.second ≤ 2 ^ 32)
  pub within : (b.low ≤ S) × (b.high ≤ S)
