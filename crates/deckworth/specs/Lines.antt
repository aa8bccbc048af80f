-- Document 02, request 06: "A program prints, for each system of a deck file and each fan 1 to n, a line of system, fan, lower, upper or the refusal".
-- And the room that each line takes at most. The lines of half the systems stand in a buffer of their own.
use Rattle.std.specs.Prelude.{Bool, ◌≡◌, List, ◌++◌, ℕ, ◌+◌, ◌*◌, take}
use Rattle.rules.specs.declared.Worth.{Worth}
use Rattle.rules.specs.declared.Worth.TheVariants.{Ends, Refused}
use Rattle.rules.specs.File.{most_fans, fans_in, count_in, system_in, deck_in, worth_in}
use Rattle.io.specs.Counts.{IsPrefixLen}
use Rattle.text.specs.Decimal.{text}
use Rattle.text.specs.Lines.{pair_text, pair_room, signed_pair}
use Rattle.advice.specs.declared.why.Why.{Why}
use Rattle.advice.specs.System.{fan_why}
use Rattle.printing.specs.Lines.{lines_text, worded_text, worded_room, worded_print}
use Rattle.printing.specs.Front.{Front}

-- "lower, upper or the refusal", with why it is given where words are asked for
abbrev pub worth_text : (words : Bool) (why : ℕ → Why) → Worth → List ℕ
worth_text words why (Ends lower upper) = signed_pair (text " lower ") lower (text " upper ") upper ++ text "\n"
worth_text words why (Refused number) = worded_text words (why number) number

-- "a line of system, fan"
abbrev pub line_text : (words : Bool) (system fan : ℕ) (why : ℕ → Why) → Worth → List ℕ
line_text words system fan why worth = pair_text (text "system ") system (text " fan ") fan ++ worth_text words why worth

abbrev pub line_room : ℕ
line_room = pair_room (text "system ") (text " fan ") + worded_room

-- of a file's fan and system, each counted from 0
abbrev pub why_in : (bytes : List ℕ) (s i number : ℕ) → Why
why_in bytes s i number = fan_why (deck_in bytes) (system_in bytes s) (i + 1) number

abbrev pub fan_line : (words : Bool) (bytes : List ℕ) (s i : ℕ) → List ℕ
fan_line words bytes s i = line_text words (s + 1) (i + 1) (why_in bytes s i) (worth_in bytes s (i + 1))

-- "each fan 1 to n": a system's lines
abbrev pub fans_text : (words : Bool) (bytes : List ℕ) (s : ℕ) → List ℕ
fans_text words bytes s = lines_text (fans_in bytes) (fan_line words bytes s)

abbrev pub fans_room : ℕ
fans_room = line_room * most_fans

-- those of so many systems, from one on
abbrev pub some_text : (words : Bool) (bytes : List ℕ) (from count : ℕ) → List ℕ
some_text words bytes from count = lines_text count (λ k. fans_text words bytes (from + k))

-- all that deckworth prints for a file that is not refused, "for each system"
abbrev pub list_text : (words : Bool) → List ℕ → List ℕ
list_text words bytes = lines_text (count_in bytes) (fans_text words bytes)

-- half the systems of the largest deck, and the room that their lines take
abbrev pub half : ℕ
half = 16

abbrev pub half_room : ℕ
half_room = fans_room * half

-- the first bytes of two buffers, one behind the other, are a text
pub record InTwo (text out : List ℕ) (end : ℕ) (more : List ℕ) (stop : ℕ) : Type 0 where
  pub first : IsPrefixLen end out
  pub second : IsPrefixLen stop more
  pub stands : take end out ++ take stop more ≡ text

-- and are what is printed for the whole input, of which a buffer holds the front
pub record WholeInTwo (words : Bool) (buffer : List ℕ) (filled : ℕ) (out : List ℕ) (end : ℕ) (more : List ℕ) (stop : ℕ) : Type 0 where
  pub first : IsPrefixLen end out
  pub second : IsPrefixLen stop more
  pub stands : (input : List ℕ) → Front input buffer filled → take end out ++ take stop more ≡ worded_print words (list_text words) input
