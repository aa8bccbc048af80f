-- What the arrays of a listing stand for: their fronts are the lists of what has been read.
use Rattle.std.specs.Prelude.{◌≡◌, List, [], ◌∷◌, ◌++◌, ℕ, ◌+◌, ◌*◌, ◌/◌, ◌%◌, ◌≤◌, length, get_or, take, drop, replicate}
use Rattle.rules.specs.File.{most_fans, most_systems, per_system}
use Rattle.grammar.specs.Grammar.{of_number, of_first, of_second, of_a, of_b, of_given}
use Rattle.grammar.specs.Text.{five_of, numbers_of}
use Rattle.typed_lists.specs.declared.fans.Fans.{Fans}
use Rattle.typed_lists.specs.declared.listed.Systems.{Systems}

-- the first `count` of an array's entries are a list
pub record Stored (room count : ℕ) (array list : List ℕ) : Type 0 where
  pub long : length array ≡ room
  pub few : count ≤ room
  pub counted : length list ≡ count
  pub stands : take count array ≡ list

-- fans
pub record Fanned (f : Fans) (survival weights boards lines : List ℕ) : Type 0 where
  pub parts : Stored most_fans f.count f.survival survival
  pub weighed : Stored most_fans f.count f.weights weights
  pub placed : Stored most_fans f.count f.boards boards
  pub lined : Stored most_fans f.count f.lines lines

-- they have room, and can be looked up
pub record Lined (f : Fans) : Type 0 where
  pub few : f.count ≤ most_fans
  pub survival : length f.survival ≡ most_fans
  pub weights : length f.weights ≡ most_fans
  pub boards : length f.boards ≡ most_fans
  pub lines : length f.lines ≡ most_fans

-- so many more, all alike, whatever fans there were
pub record MoreFans (before after : Fans) (more parts weight board line : ℕ) : Type 0 where
  pub count : after.count ≡ before.count + more
  pub lined : Lined before → Lined after
  pub lists : (survival weights boards lines : List ℕ) → Fanned before survival weights boards lines
      → Fanned after (survival ++ replicate more parts) (weights ++ replicate more weight) (boards ++ replicate more board) (lines ++ replicate more line)

-- a listed system: kind, first, second, a, b and whether a stretch was given
abbrev pub per_listed : ℕ
per_listed = 6

abbrev pub six_of : (set : List ℕ) → List ℕ
six_of set = get_or set of_number 0 ∷ get_or set of_first 0 ∷ get_or set of_second 0 ∷ get_or set of_a 0 ∷ get_or set of_b 0 ∷ get_or set of_given 0 ∷ []

unfoldable pub sixes : (systems : List (List ℕ)) → List ℕ
sixes [] = []
sixes (set ∷ systems) = six_of set ++ sixes systems

pub record Ruled (r : Systems) (systems : List (List ℕ)) : Type 0 where
  pub count : r.count ≡ length systems
  pub numbers : Stored (most_systems * per_listed) (r.count * per_listed) r.numbers (sixes systems)

-- one more, whatever systems there were
pub record MoreSystems (before after : Systems) (set : List ℕ) : Type 0 where
  pub count : after.count ≡ before.count + 1
  pub ruled : (systems : List (List ℕ)) → Ruled before systems → Ruled after (systems ++ (set ∷ []))

-- the number at place j of the typed ones, from the listed ones
abbrev pub typed_at : (fans : ℕ) (listed : List ℕ) (j : ℕ) → ℕ
typed_at fans listed j = get_or (five_of fans (drop (j / per_system * per_listed) listed)) (j % per_system) 0

-- the numbers of all, whatever systems the listed ones are
abbrev pub TypedNumbers : (fans : ℕ) → Systems → (numbers : List ℕ) → Type 0
TypedNumbers fans r numbers = (systems : List (List ℕ)) → Ruled r systems → Stored (most_systems * per_system) (r.count * per_system) numbers (numbers_of fans systems)
