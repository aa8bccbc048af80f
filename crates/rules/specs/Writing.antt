-- Document 02, request 01, "Write the deck file ashore": what the office typed, what is refused, what is answered, and the room afterwards.
use Rattle.std.specs.Prelude.{◌≡◌, Bool, not, ◌&&◌, List, [], ◌∷◌, ◌++◌, ℕ, ◌/◌, ◌%◌, ltb, eqb, length, drop}
use Rattle.rules.specs.declared.Writing.{Writing}
use Rattle.rules.specs.declared.Writing.TheVariants.{Written, Refused}
use Rattle.rules.specs.Below.{within}
use Rattle.rules.specs.Boards.{boards_read}
use Rattle.rules.specs.Refusal.{bad_version, bad_size, bad_boards, misplaced, first_of}
use Rattle.rules.specs.Answer.{unless, Given}
use Rattle.rules.specs.File.{Deck, per_system, most_systems, system_numbers, systems_of, file_of}

-- "lists and systems in", since request 08 the version, and since request 11 the boards: the systems as numbers, one system's five after the other's
pub record Typed : Type 0 where
  pub version : ℕ
  pub survival : List ℕ
  pub weights : List ℕ
  pub boards : List ℕ
  pub switchboards : List ℕ
  pub numbers : List ℕ

abbrev pub typed_of : (version : ℕ) (survival weights boards switchboards numbers : List ℕ) → Typed
typed_of version survival weights boards switchboards numbers = record {
  version = version;
  survival = survival;
  weights = weights;
  boards = boards;
  switchboards = switchboards;
  numbers = numbers;
}

-- the deck that is typed, its bytes, and how a deck is typed; of boards "nothing .. is read" with versions 1 and 2
abbrev pub deck_of : Typed → Deck
deck_of t = record {
  version = t.version;
  survival = t.survival;
  weights = t.weights;
  boards = boards_read t.version t.boards;
  switchboards = boards_read t.version t.switchboards;
  systems = systems_of t.numbers;
}

abbrev pub bytes_for : Typed → List ℕ
bytes_for t = file_of (deck_of t)

abbrev pub typed_from : Deck → Typed
typed_from d = typed_of d.version d.survival d.weights d.boards d.switchboards (system_numbers d.systems)

-- "weights' length not n as 5"
abbrev pub unpaired : Typed → Bool
unpaired t = not (eqb (length t.weights) (length t.survival))

-- "12 (a part system too)": number of systems not 1..32, or numbers left over
abbrev pub bad_fives : (count : ℕ) → Bool
bad_fives count = not (eqb (count % per_system) 0 && within 1 (count / per_system) most_systems)

-- "16, room too short"
abbrev pub short_for : Typed → (room : List ℕ) → Bool
short_for t room = ltb (length room) (length (bytes_for t))

-- "Refusals: 2, weights' length not n as 5, 12 (a part system too), then 16, room too short, in that order"; request 08: 11 "first where it is an input";
-- request 11: "with 20 and 21 before 16"
unfoldable pub write_refusal : Typed → (room : List ℕ) → ℕ
write_refusal t room =
    first_of
    ((11, bad_version t.version)
    ∷ (2, bad_size (length t.survival))
    ∷ (5, unpaired t)
    ∷ (12, bad_fives (length t.numbers))
    ∷ (20, bad_boards t.version (length t.switchboards))
    ∷ (21, misplaced t.version (length t.survival) (length t.switchboards) t.boards t.boards)
    ∷ (16, short_for t room)
    ∷ [])

-- what each case of the answer says, and the answer
abbrev pub Writes : Writing → (refusal size : ℕ) → Type 0
Writes (Written l) refusal size = (refusal ≡ 0) × (l ≡ size)
Writes (Refused number) refusal size = Given number refusal

unfoldable pub writing_of : Typed → (room : List ℕ) → Writing
writing_of t room = unless (write_refusal t room) Refused (Written (length (bytes_for t)))

-- "bytes out into lent room, whose rest stays untouched"; "nothing is written on any of them"
unfoldable pub room_written : Typed → (room : List ℕ) → List ℕ
room_written t room = unless (write_refusal t room) (λ r. room) (bytes_for t ++ drop (length (bytes_for t)) room)
