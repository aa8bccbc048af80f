-- Document 02, request 14, "Mend a deck file": which files are refused, the mended bytes, the list of what they change, how many bytes are cut, and both rooms afterwards.
use Rattle.std.specs.Prelude.{◌≡◌, Bool, cond, not, ◌||◌, List, [], ◌∷◌, ◌++◌, ℕ, zero, suc, ◌-◌, ◌*◌, ltb, eqb, length, get_or, take, drop}
use Rattle.rules.specs.declared.Mending.{Mending}
use Rattle.rules.specs.declared.Mending.TheVariants.{Mended, Refused}
use Rattle.rules.specs.Below.{held}
use Rattle.rules.specs.Refusal.{first_of, after, bad_version, bad_size}
use Rattle.rules.specs.Answer.{unless, Given}
use Rattle.rules.specs.File.{header_length, header_of, version_in, fans_in, count_in, board_count_in, length_in, short_file, short_header, bad_systems, bad_boards_in}

-- "It writes the offsets and the zero field that the layout fixes": the layout's header for that version and those counts
abbrev pub header_for : List ℕ → List ℕ
header_for bytes = header_of (version_in bytes) (fans_in bytes) (board_count_in bytes) (count_in bytes)

-- "Survival numbers, weights, boards and rules are never touched"; it "cuts what follows the last system": the file's own bytes from the header's end to there
abbrev pub body_in : List ℕ → List ℕ
body_in bytes =
    let header = header_length (version_in bytes) in
    take (length_in bytes - header) (drop header bytes)

unfoldable pub mended : List ℕ → List ℕ
mended bytes = header_for bytes ++ body_in bytes

-- "the number of bytes cut"
abbrev pub cut_from : List ℕ → ℕ
cut_from bytes = length bytes - length_in bytes

-- do two lists of bytes differ at a place?
abbrev pub differs : (old new : List ℕ) (place : ℕ) → Bool
differs old new place = not (eqb (get_or old place 0) (get_or new place 0))

-- "lists each changed byte by position with old and new value": three numbers each, of the places below k, in order
abbrev pub per_change : ℕ
per_change = 3

abbrev pub change_at : (old new : List ℕ) (place : ℕ) → List ℕ
change_at old new place = cond (differs old new place) (place ∷ get_or old place 0 ∷ get_or new place 0 ∷ []) []

unfoldable pub changes_below : (old new : List ℕ) (k : ℕ) → List ℕ
changes_below old new zero = []
changes_below old new (suc k) = changes_below old new k ++ change_at old new k

-- of all places that are written: the list, and how many bytes are changed
abbrev pub changes_in : List ℕ → List ℕ
changes_in bytes = changes_below bytes (mended bytes) (length (mended bytes))

abbrev pub changed_in : List ℕ → ℕ
changed_in bytes = held (differs bytes (mended bytes)) (length (mended bytes))

-- "22, the file ends before its last system is whole"
abbrev pub ends_early : List ℕ → Bool
ends_early bytes = ltb (length bytes) (length_in bytes)

-- "Refusals: 10, 11 for the version only, 2, 12, 20; then 22": those of the file itself. Request 11: 10 again "right after 11".
unfoldable pub beyond_mending : List ℕ → ℕ
beyond_mending bytes =
    first_of
    ((10, short_file bytes)
    ∷ (11, bad_version (version_in bytes))
    ∷ (10, short_header bytes)
    ∷ (2, bad_size (fans_in bytes))
    ∷ (12, bad_systems bytes)
    ∷ (20, bad_boards_in bytes)
    ∷ (22, ends_early bytes)
    ∷ [])

-- "then 16, room too short for the bytes or the list"
abbrev pub short_rooms : (bytes room list : List ℕ) → Bool
short_rooms bytes room list = ltb (length room) (length (mended bytes)) || ltb (length list) (per_change * changed_in bytes)

unfoldable pub mend_refusal : (bytes room list : List ℕ) → ℕ
mend_refusal bytes room list = after (beyond_mending bytes) (first_of ((16, short_rooms bytes room list) ∷ []))

-- what each case of the answer says, and the answer
abbrev pub Mends : Mending → (refusal : ℕ) (bytes : List ℕ) → Type 0
Mends (Mended size changed cut) refusal bytes = (refusal ≡ 0) × (size ≡ length (mended bytes)) × (changed ≡ changed_in bytes) × (cut ≡ cut_from bytes)
Mends (Refused number) refusal bytes = Given number refusal

unfoldable pub mending_of : (bytes room list : List ℕ) → Mending
mending_of bytes room list = unless (mend_refusal bytes room list) Refused (Mended (length (mended bytes)) (changed_in bytes) (cut_from bytes))

-- "Nothing is written on any of them; spare room stays untouched": both rooms after a call
abbrev pub front_of : (written room : List ℕ) → List ℕ
front_of written room = written ++ drop (length written) room

unfoldable pub room_mended : (bytes room list : List ℕ) → List ℕ
room_mended bytes room list = unless (mend_refusal bytes room list) (λ r. room) (front_of (mended bytes) room)

unfoldable pub list_mended : (bytes room list : List ℕ) → List ℕ
list_mended bytes room list = unless (mend_refusal bytes room list) (λ r. list) (front_of (changes_in bytes) list)
