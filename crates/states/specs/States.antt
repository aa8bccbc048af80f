-- A state of a deck, and the verdict of each of its systems on it. Document 01: a state is "a word", "bit i - 1 is one where component i has failed";
-- here the components are the deck's fans.
use Rattle.std.specs.Prelude.{List, [], ℕ, zero, suc, ◌+◌, ◌-◌, ◌/◌, ◌%◌, ◌^◌, eqb, length}
use Rattle.std.specs.Int.Bits.{bit_or}
use Rattle.rules.specs.declared.System.{System}
use Rattle.rules.specs.declared.Verdict.{Verdict}
use Rattle.rules.specs.declared.Verdict.TheVariants.{Works, Fails, Refused}
use Rattle.rules.specs.State.{number_of}
use Rattle.rules.specs.Boards.{fans_down}
use Rattle.rules.specs.Stretch.{stretch}
use Rattle.rules.specs.Answer.{unless, verdict_of}
use Rattle.rules.specs.File.{Deck, deck_in, system_in}
use Rattle.asked.specs.Parts.{place_refusal}

-- the state with a fan failed too
unfoldable pub fan_failed : (state fan : ℕ) → ℕ
fan_failed state fan = bit_or state (2 ^ (fan - 1))

-- "A failed board fails its fans": the state with every fan on a board failed too, by the fans' board numbers
unfoldable pub board_failed : (boards : List ℕ) (board state : ℕ) → ℕ
board_failed boards board state = fans_down (λ i. eqb (number_of boards i) board) (length boards) state

-- what the stretch from a to b sees of a state: its first component is fan a, and a fan outside it does not count
abbrev pub state_in : (a b state : ℕ) → ℕ
state_in a b state = state / 2 ^ (a - 1) % 2 ^ (suc b - a)

-- a place in a stretch from a on, as the fan's number on the deck; kinds 1 to 3 have no place, 0, there and here
unfoldable pub deck_place : (a place : ℕ) → ℕ
deck_place a zero = 0
deck_place a (suc p) = a - 1 + suc p

abbrev pub on_deck : (a : ℕ) → Verdict → Verdict
on_deck a Works = Works
on_deck a (Fails place) = Fails (deck_place a place)
on_deck a (Refused number) = Refused number

-- a system's verdict over n fans: refusals 1, 2 and 3 as of a rating, then those of the verdict over the stretch, 5 and 6. Survival numbers are not looked at.
unfoldable pub part_verdict : System → (n : ℕ) (weights : List ℕ) (state : ℕ) → Verdict
part_verdict s n weights state =
    let a = s.a in
    let b = s.b in
    unless (place_refusal s.rule a b n) Refused
    (on_deck a (verdict_of s.rule (suc b - a) (stretch a b weights) [] (state_in a b state)))

abbrev pub system_verdict : Deck → System → (state : ℕ) → Verdict
system_verdict d s state = part_verdict s (length d.survival) d.weights state

-- that of a file's system, counted from 0
abbrev pub verdict_in : (bytes : List ℕ) (s state : ℕ) → Verdict
verdict_in bytes s state = system_verdict (deck_in bytes) (system_in bytes s) state
