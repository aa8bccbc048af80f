-- Document 01, "Deck file and printing": the bytes of a deck, reading them by position, the file's refusals, the loading computer's answer.
use Rattle.std.specs.Prelude.{Bool, cond, not, ◌&&◌, ◌||◌, List, [], ◌∷◌, ◌++◌, ℕ, zero, suc, ◌+◌, ◌-◌, ◌*◌, ◌/◌, ◌%◌, ◌^◌, ltb, eqb, length, get_or, replicate}
use Rattle.rules.specs.declared.System.{System}
use Rattle.rules.specs.declared.Rating.{Rating}
use Rattle.rules.specs.declared.Rating.TheVariants.{Range, Refused}
use Rattle.rules.specs.declared.Worth.{Worth}
use Rattle.rules.specs.declared.Worth.TheVariants as worth
use Rattle.rules.specs.Below.{within, list_below}
use Rattle.rules.specs.Boards.{has_boards, boards_read}
use Rattle.rules.specs.Asked.{Asked, question_of, asked_of}
use Rattle.rules.specs.Refusal.{most, cells, first_of, bad_version, bad_size, bad_boards, misplaced}
use Rattle.rules.specs.Answer.{unless, figures_of}
use Rattle.rules.specs.Worth.{worth_of}
use Rattle.rules.specs.Gain.{gain_of}

-- a deck: its version, which says the unit, its fans' survival numbers, weights and board numbers, its boards' survival numbers, and its systems
pub record Deck : Type 0 where
  pub version : ℕ
  pub survival : List ℕ
  pub weights : List ℕ
  pub boards : List ℕ
  pub switchboards : List ℕ
  pub systems : List System

-- "Little-endian": the bytes of a number, lowest first, and the number that so many bytes from a place on spell
unfoldable pub bytes_of : (width x : ℕ) → List ℕ
bytes_of zero x = []
bytes_of (suc width) x = x % 256 ∷ bytes_of width (x / 256)

unfoldable pub number_at : (width : ℕ) (bytes : List ℕ) (at : ℕ) → ℕ
number_at zero bytes at = 0
number_at (suc width) bytes at = get_or bytes at 0 + 256 * number_at width bytes (suc at)

-- the i-th of the numbers that stand one after the other from a place on, and the first n of them
abbrev pub nth_number : (width : ℕ) (bytes : List ℕ) (from i : ℕ) → ℕ
nth_number width bytes from i = number_at width bytes (from + width * i)

abbrev pub numbers_from : (width : ℕ) (bytes : List ℕ) (from n : ℕ) → List ℕ
numbers_from width bytes from n = list_below n (nth_number width bytes from)

-- the numbers of a list, each in so many bytes
unfoldable pub all_bytes : (width : ℕ) → List ℕ → List ℕ
all_bytes width [] = []
all_bytes width (x ∷ xs) = bytes_of width x ++ all_bytes width xs

-- where the header has each of its numbers: "version (2 bytes, 1)", since request 11 1 to 3, "zero (2), n (2), systems m (2)", then the three offsets; request 11:
-- "the 28-byte header ends in g (4) and the offset of those bytes (4)"
abbrev pub version_field : ℕ
version_field = 0

abbrev pub zero_field : ℕ
zero_field = 2

abbrev pub fans_field : ℕ
fans_field = 4

abbrev pub count_field : ℕ
count_field = 6

abbrev pub survival_field : ℕ
survival_field = 8

abbrev pub weights_field : ℕ
weights_field = 12

abbrev pub systems_field : ℕ
systems_field = 16

abbrev pub board_count_field : ℕ
board_count_field = 20

abbrev pub boards_field : ℕ
boards_field = 24

-- how long it is: that of the versions without boards is the shortest
abbrev pub shortest_header : ℕ
shortest_header = 20

abbrev pub header_length : (version : ℕ) → ℕ
header_length version = cond (has_boards version) 28 shortest_header

-- "Then P (4 bytes each), weights (2 each), systems of 10 bytes"; request 11: "a byte per fan and the boards' numbers, in that order between weights and systems
-- (a number takes 4 bytes)"
abbrev pub survival_bytes : ℕ
survival_bytes = 4

abbrev pub weight_bytes : ℕ
weight_bytes = 2

abbrev pub board_bytes : ℕ
board_bytes = 1

abbrev pub system_bytes : ℕ
system_bytes = 10

-- of how many fans a file has the board number
abbrev pub board_fans : (version n : ℕ) → ℕ
board_fans version n = cond (has_boards version) n 0

-- the most fans and systems that a file has
abbrev pub most_fans : ℕ
most_fans = most

abbrev pub most_systems : ℕ
most_systems = 32

-- "offset of survival numbers (4) = 20, of weights (4) = 20 + 4n, of systems (4) = 20 + 6n", "Length 20 + 6n + 10m exactly": each part begins where the one before it
-- ends. g is 0 where the version has no boards.
abbrev pub survival_offset : (version : ℕ) → ℕ
survival_offset version = header_length version

abbrev pub weights_offset : (version n : ℕ) → ℕ
weights_offset version n = survival_offset version + survival_bytes * n

abbrev pub boards_offset : (version n : ℕ) → ℕ
boards_offset version n = weights_offset version n + weight_bytes * n

abbrev pub switchboards_offset : (version n : ℕ) → ℕ
switchboards_offset version n = boards_offset version n + board_bytes * board_fans version n

abbrev pub systems_offset : (version n g : ℕ) → ℕ
systems_offset version n g = switchboards_offset version n + survival_bytes * g

abbrev pub file_length : (version n g m : ℕ) → ℕ
file_length version n g m = systems_offset version n g + system_bytes * m

-- the header's bytes: four numbers in two bytes each, then offsets, and g, in four each
abbrev pub counts_of : (version n m : ℕ) → List ℕ
counts_of version n m = version ∷ 0 ∷ n ∷ m ∷ []

abbrev pub offsets_of : (version n g : ℕ) → List ℕ
offsets_of version n g =
    survival_offset version ∷ weights_offset version n ∷ systems_offset version n g ∷ boards_read version (g ∷ boards_offset version n ∷ [])

unfoldable pub header_of : (version n g m : ℕ) → List ℕ
header_of version n g m = all_bytes 2 (counts_of version n m) ++ all_bytes 4 (offsets_of version n g)

-- "kind, first, second, a, b (2 each)"
unfoldable pub system_numbers : List System → List ℕ
system_numbers [] = []
system_numbers (s ∷ ss) =
    s.rule.kind ∷ s.rule.first ∷ s.rule.second ∷ s.a ∷ s.b ∷ system_numbers ss

-- a system by its five numbers, and the systems of a list of numbers, five each; what is left of a part system is none
abbrev pub per_system : ℕ
per_system = 5

abbrev pub five_of : (ℕ → ℕ) → System
five_of f = record { rule = record { kind = f 0; first = f 1; second = f 2 }; a = f 3; b = f 4 }

unfoldable pub systems_of : List ℕ → List System
systems_of numbers = list_below (length numbers / per_system) (λ s. five_of (λ i. get_or numbers (per_system * s + i) 0))

-- the layout
unfoldable pub file_of : Deck → List ℕ
file_of d =
    header_of d.version (length d.survival) (length d.switchboards) (length d.systems)
    ++ all_bytes survival_bytes d.survival
    ++ all_bytes weight_bytes d.weights
    ++ all_bytes board_bytes d.boards
    ++ all_bytes survival_bytes d.switchboards
    ++ all_bytes 2 (system_numbers d.systems)

-- the version, n, m and g as a file has them
abbrev pub version_in : List ℕ → ℕ
version_in bytes = number_at 2 bytes version_field

abbrev pub fans_in : List ℕ → ℕ
fans_in bytes = number_at 2 bytes fans_field

abbrev pub count_in : List ℕ → ℕ
count_in bytes = number_at 2 bytes count_field

abbrev pub board_count_in : List ℕ → ℕ
board_count_in bytes = cond (has_boards (version_in bytes)) (number_at 4 bytes board_count_field) 0

-- where a file ends by its own version and counts
abbrev pub length_in : List ℕ → ℕ
length_in bytes = file_length (version_in bytes) (fans_in bytes) (board_count_in bytes) (count_in bytes)

-- reading by position: a system, the s-th of those from a place on, a file's s-th, counted from 0, and its deck
unfoldable pub system_at : (bytes : List ℕ) (at : ℕ) → System
system_at bytes at = record {
  rule = record { kind = number_at 2 bytes at; first = number_at 2 bytes (at + 2); second = number_at 2 bytes (at + 4) };
  a = number_at 2 bytes (at + 6);
  b = number_at 2 bytes (at + 8);
}

abbrev pub nth_system : (bytes : List ℕ) (from s : ℕ) → System
nth_system bytes from s = system_at bytes (from + system_bytes * s)

abbrev pub system_in : (bytes : List ℕ) (s : ℕ) → System
system_in bytes s = nth_system bytes (systems_offset (version_in bytes) (fans_in bytes) (board_count_in bytes)) s

unfoldable pub deck_in : List ℕ → Deck
deck_in bytes =
    let version = version_in bytes in
    let n = fans_in bytes in
    record {
      version = version;
      survival = numbers_from survival_bytes bytes (survival_offset version) n;
      weights = numbers_from weight_bytes bytes (weights_offset version n) n;
      boards = numbers_from board_bytes bytes (boards_offset version n) (board_fans version n);
      switchboards = numbers_from survival_bytes bytes (switchboards_offset version n) (board_count_in bytes);
      systems = list_below (count_in bytes) (system_in bytes);
    }

-- 10: deck file under 20 bytes; request 11: "10 also for a version 3 file under 28 bytes"
abbrev pub short_file : List ℕ → Bool
short_file bytes = ltb (length bytes) shortest_header

abbrev pub short_header : List ℕ → Bool
short_header bytes = ltb (length bytes) (header_length (version_in bytes))

-- 11: version not 1, since request 11 not 1..3, or the zero field not 0
abbrev pub bad_start : List ℕ → Bool
bad_start bytes = bad_version (version_in bytes) || not (eqb (number_at 2 bytes zero_field) 0)

-- 12: number of systems not 1..32
abbrev pub bad_systems : List ℕ → Bool
bad_systems bytes = not (within 1 (count_in bytes) most_systems)

-- 13: an offset or the file's length differs from the layout; the offset of the board bytes where the version has it
abbrev pub boards_elsewhere : List ℕ → Bool
boards_elsewhere bytes =
    let version = version_in bytes in
    has_boards version && not (eqb (number_at 4 bytes boards_field) (boards_offset version (fans_in bytes)))

abbrev pub bad_layout : List ℕ → Bool
bad_layout bytes =
    let version = version_in bytes in
    let n = fans_in bytes in
    let g = board_count_in bytes in
    not
    (eqb (number_at 4 bytes survival_field) (survival_offset version)
    && eqb (number_at 4 bytes weights_field) (weights_offset version n)
    && eqb (number_at 4 bytes systems_field) (systems_offset version n g)
    && not (boards_elsewhere bytes)
    && eqb (length bytes) (file_length version n g (count_in bytes)))

-- 20 and 21, of a file
abbrev pub bad_boards_in : List ℕ → Bool
bad_boards_in bytes = bad_boards (version_in bytes) (board_count_in bytes)

abbrev pub misplaced_in : List ℕ → Bool
misplaced_in bytes =
    let boards = (deck_in bytes).boards in
    misplaced (version_in bytes) (fans_in bytes) (board_count_in bytes) boards boards

-- "A file is checked 10, 11, 2, 12, 13"; request 11: 10 again "right after 11", 20 "after 12", 21 "after 13"
unfoldable pub file_refusal : List ℕ → ℕ
file_refusal bytes =
    first_of
    ((10, short_file bytes)
    ∷ (11, bad_start bytes)
    ∷ (10, short_header bytes)
    ∷ (2, bad_size (fans_in bytes))
    ∷ (12, bad_systems bytes)
    ∷ (20, bad_boards_in bytes)
    ∷ (13, bad_layout bytes)
    ∷ (21, misplaced_in bytes)
    ∷ [])

-- what a system asks of its deck; request 05: "a deck file carries a single pair in first and second"
abbrev pub asked_by : Deck → System → Asked
asked_by d s = asked_of (question_of d.version s.rule s.a s.b) d.survival d.weights [] d.boards d.switchboards

-- a system's own answer, over a working table that the caller brings
unfoldable pub system_of : Deck → System → Rating
system_of d s = figures_of (asked_by d s) (replicate cells 0)

-- the answer of a file's system, counted from 0
abbrev pub answer_in : List ℕ → ℕ → Rating
answer_in bytes s = system_of (deck_in bytes) (system_in bytes s)

-- "low times 2^32 plus high; for a refusal, (2^32 - 1) times 2^32 plus its number"
abbrev pub half_word : ℕ
half_word = 2 ^ 32

abbrev pub packed_refusal : ℕ → ℕ
packed_refusal number = (half_word - 1) * half_word + number

abbrev pub packed : Rating → ℕ
packed (Range low high) = low * half_word + high
packed (Refused number) = packed_refusal number

-- 14: system number 0 or above the file's count
abbrev pub bad_number : List ℕ → ℕ → Bool
bad_number bytes s = not (within 1 s (count_in bytes))

-- "the loading computer's call then checks 14, and only then the system's own 1 and 3 to 6"
abbrev pub numbered_of : {A : Type 0} (bytes : List ℕ) (s : ℕ) (refused : ℕ → A) (answer : A) → A
numbered_of bytes s refused answer = unless (file_refusal bytes) refused (cond (bad_number bytes s) (refused 14) answer)

unfoldable pub loading_of : (bytes : List ℕ) (s : ℕ) → Rating
loading_of bytes s = numbered_of bytes s Refused (answer_in bytes (s - 1))

-- request 06: the worth of a fan of a file's system, counted from 0, over a working table that the caller brings
unfoldable pub system_worth : Deck → System → (fan : ℕ) → Worth
system_worth d s fan = worth_of (asked_by d s) fan (replicate cells 0)

abbrev pub worth_in : List ℕ → (s fan : ℕ) → Worth
worth_in bytes s fan = system_worth (deck_in bytes) (system_in bytes s) fan

-- and as the loading computer's call gives it: the file's refusal, 14, the system's own, 17
unfoldable pub worth_loading_of : (bytes : List ℕ) (s fan : ℕ) → Worth
worth_loading_of bytes s fan = numbered_of bytes s worth.Refused (worth_in bytes (s - 1) fan)

-- the gain of a spare in the same ways
unfoldable pub system_gain : Deck → System → (fan p : ℕ) → Worth
system_gain d s fan p = gain_of (asked_by d s) fan p (replicate cells 0)

abbrev pub gain_in : List ℕ → (s fan p : ℕ) → Worth
gain_in bytes s fan p = system_gain (deck_in bytes) (system_in bytes s) fan p

unfoldable pub gain_loading_of : (bytes : List ℕ) (s fan p : ℕ) → Worth
gain_loading_of bytes s fan p = numbered_of bytes s worth.Refused (gain_in bytes (s - 1) fan p)
