-- What the head of a deck file says, by value: its version, and how many fans, systems and boards it has.
use Rattle.std.specs.Prelude.{◌≡◌, Bool, not, ◌||◌, List, [], ◌∷◌, ℕ, ◌^◌, ◌≤◌, ◌<◌, eqb, length}
use Rattle.rules.specs.Below.{within}
use Rattle.rules.specs.Refusal.{bad_size, bad_boards, first_of}
use Rattle.rules.specs.File.{Deck, most_systems, shortest_header, header_length, survival_field, weights_field, systems_field, board_bytes, board_fans}
use Rattle.rules.specs.File.{survival_offset, weights_offset, boards_offset, systems_offset, file_length, number_at, numbers_from, version_in, fans_in, count_in, board_count_in}
use Rattle.deck.specs.declared.Head.{Head}

-- the head of a file
abbrev pub head_of : List ℕ → Head
head_of bytes = record { version = version_in bytes; fans = fans_in bytes; systems = count_in bytes; boards = board_count_in bytes }

-- that of a deck
abbrev pub head_for : Deck → Head
head_for d = record { version = d.version; fans = length d.survival; systems = length d.systems; boards = length d.switchboards }

-- a head says what these bytes say
pub record Says (bytes : List ℕ) (head : Head) : Type 0 where
  pub version : head.version ≡ version_in bytes
  pub fans : head.fans ≡ fans_in bytes
  pub systems : head.systems ≡ count_in bytes
  pub boards : head.boards ≡ board_count_in bytes

-- its numbers are of two bytes, and of four
pub record Small (head : Head) : Type 0 where
  pub fans : head.fans < 2 ^ 16
  pub systems : head.systems < 2 ^ 16
  pub boards : head.boards < 2 ^ 32

-- bytes that have a version, and those whose whole header is there
pub record Versioned (bytes : List ℕ) (version : ℕ) : Type 0 where
  pub long : shortest_header ≤ length bytes
  pub is : version ≡ version_in bytes

pub record Begun (bytes : List ℕ) (version : ℕ) : Type 0 where
  pub long : header_length (version_in bytes) ≤ length bytes
  pub is : version ≡ version_in bytes

-- the head that such a header gives
pub record Given (bytes : List ℕ) (head : Head) : Type 0 where
  pub long : header_length (version_in bytes) ≤ length bytes
  pub says : Says bytes head
  pub small : Small head

-- 13, of the offsets that every header has: one is not the layout's
abbrev pub lists_elsewhere : List ℕ → Bool
lists_elsewhere bytes =
    let version = version_in bytes in
    let n = fans_in bytes in
    not (eqb (number_at 4 bytes survival_field) (survival_offset version))
    || not (eqb (number_at 4 bytes weights_field) (weights_offset version n))
    || not (eqb (number_at 4 bytes systems_field) (systems_offset version n (board_count_in bytes)))

-- the board bytes of n fans
abbrev pub boards_by : (bytes : List ℕ) (version n : ℕ) → List ℕ
boards_by bytes version n = numbers_from board_bytes bytes (boards_offset version n) (board_fans version n)

-- where a file ends by its head
abbrev pub length_by : Head → ℕ
length_by head = file_length head.version head.fans head.boards head.systems

-- 2, 12 and 20, of the counts that a head gives
unfoldable pub counts_refusal : Head → ℕ
counts_refusal head =
    first_of
    ((2, bad_size head.fans)
    ∷ (12, not (within 1 head.systems most_systems))
    ∷ (20, bad_boards head.version head.boards)
    ∷ [])
