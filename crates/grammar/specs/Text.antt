-- The whole text: what its lines list, one after another, and its faults by line; the deck that a text without a fault lists.
use Rattle.std.specs.Prelude.{Bool, true, false, cond, ◌&&◌, not, List, [], ◌∷◌, ◌++◌, ℕ, ◌+◌, eqb, ltb, length, get_or, replicate}
use Rattle.rules.specs.Refusal.{most_boards}
use Rattle.rules.specs.File.{most_fans, most_systems}
use Rattle.rules.specs.Writing.{Typed, typed_of}
use Rattle.text.specs.Decimal.{decimal}
use Rattle.grammar.specs.Words.{lines_of, words_of}
use Rattle.grammar.specs.Grammar.{of_number, of_first, of_second, of_a, of_b, of_given, of_thing, of_parts, of_weight, of_board, of_below, a_version, some_fans, a_board}
use Rattle.grammar.specs.Line.{Read, read_line}

-- a fault: its line, the word there (none where something is missing), what it is, and a number that the message names
pub record Fault : Type 0 where
  pub line : ℕ
  pub word : List ℕ
  pub wanted : ℕ
  pub named : ℕ

abbrev pub fault_at : (line : ℕ) (word : List ℕ) (wanted named : ℕ) → Fault
fault_at line word wanted named = record { line = line; word = word; wanted = wanted; named = named }

-- "at most 64 fans", "at most 4 boards", "at most 32 systems"; "a fan", "a system", "a board"; "a board from 1 to G"; "a line of at most 65536 bytes"
abbrev pub many_fans : ℕ
many_fans = 130

abbrev pub many_boards : ℕ
many_boards = 131

abbrev pub many_systems : ℕ
many_systems = 132

abbrev pub no_fan : ℕ
no_fan = 133

abbrev pub no_system : ℕ
no_system = 134

abbrev pub no_board : ℕ
no_board = 135

abbrev pub no_such_board : ℕ
no_such_board = 136

abbrev pub long_line : ℕ
long_line = 137

abbrev pub longest_line : ℕ
longest_line = 65536

-- what has been read: the lines so far, the version, whether a thing stands there already, the fans with the line of each, the boards, and of each system what its
-- line set
pub record Listed : Type 0 where
  pub lines : ℕ
  pub version : ℕ
  pub begun : Bool
  pub survival : List ℕ
  pub weights : List ℕ
  pub boards : List ℕ
  pub fan_lines : List ℕ
  pub switchboards : List ℕ
  pub systems : List (List ℕ)
  pub faults : List Fault

-- "without it 2"
abbrev pub nothing : Listed
nothing = record {
  lines = 0;
  version = 2;
  begun = false;
  survival = [];
  weights = [];
  boards = [];
  fan_lines = [];
  switchboards = [];
  systems = [];
  faults = [];
}

abbrev pub told : Listed → Fault → Listed
told s f = record {
  lines = s.lines;
  version = s.version;
  begun = s.begun;
  survival = s.survival;
  weights = s.weights;
  boards = s.boards;
  fan_lines = s.fan_lines;
  switchboards = s.switchboards;
  systems = s.systems;
  faults = s.faults ++ (f ∷ []);
}

-- a line more, and whether a thing stands there then
abbrev pub counted : Listed → Bool → Listed
counted s begun = record {
  lines = s.lines + 1;
  version = s.version;
  begun = begun;
  survival = s.survival;
  weights = s.weights;
  boards = s.boards;
  fan_lines = s.fan_lines;
  switchboards = s.switchboards;
  systems = s.systems;
  faults = s.faults;
}

abbrev pub versioned : Listed → (version : ℕ) → Listed
versioned s version = record {
  lines = s.lines;
  version = version;
  begun = s.begun;
  survival = s.survival;
  weights = s.weights;
  boards = s.boards;
  fan_lines = s.fan_lines;
  switchboards = s.switchboards;
  systems = s.systems;
  faults = s.faults;
}

abbrev pub with_fans : Listed → (count parts weight board : ℕ) → Listed
with_fans s count parts weight board = record {
  lines = s.lines;
  version = s.version;
  begun = s.begun;
  survival = s.survival ++ replicate count parts;
  weights = s.weights ++ replicate count weight;
  boards = s.boards ++ replicate count board;
  fan_lines = s.fan_lines ++ replicate count s.lines;
  switchboards = s.switchboards;
  systems = s.systems;
  faults = s.faults;
}

abbrev pub with_board : Listed → (parts : ℕ) → Listed
with_board s parts = record {
  lines = s.lines;
  version = s.version;
  begun = s.begun;
  survival = s.survival;
  weights = s.weights;
  boards = s.boards;
  fan_lines = s.fan_lines;
  switchboards = s.switchboards ++ (parts ∷ []);
  systems = s.systems;
  faults = s.faults;
}

abbrev pub with_system : Listed → (set : List ℕ) → Listed
with_system s set = record {
  lines = s.lines;
  version = s.version;
  begun = s.begun;
  survival = s.survival;
  weights = s.weights;
  boards = s.boards;
  fan_lines = s.fan_lines;
  switchboards = s.switchboards;
  systems = s.systems ++ (set ∷ []);
  faults = s.faults;
}

-- what a line that has been read adds, by what it has set; its first word is told where there is no room for that
abbrev pub or_told : (more : ℕ) (most : ℕ) (wanted : ℕ) (first : List ℕ) → Listed → Listed → Listed
or_told more most wanted first s next = cond (ltb most more) (told s (fault_at s.lines first wanted 0)) next

abbrev pub added_fans : Listed → (first set : List ℕ) → Listed
added_fans s first set =
    or_told (length s.survival + get_or set of_number 0) most_fans many_fans first s
    (with_fans s (get_or set of_number 0) (get_or set of_parts 0) (get_or set of_weight 0) (get_or set of_board 0))

abbrev pub added_board : Listed → (first set : List ℕ) → Listed
added_board s first set = or_told (length s.switchboards + 1) most_boards many_boards first s (with_board s (get_or set of_parts 0))

abbrev pub added_system : Listed → (first set : List ℕ) → Listed
added_system s first set = or_told (length s.systems + 1) most_systems many_systems first s (with_system s set)

unfoldable pub added : Listed → (first set : List ℕ) → Listed
added s first set =
    cond (eqb (get_or set of_thing 0) a_version) (versioned s (get_or set of_number 0))
    (cond (eqb (get_or set of_thing 0) some_fans) (added_fans s first set) (cond (eqb (get_or set of_thing 0) a_board) (added_board s first set) (added_system s first set)))

-- a line with words
unfoldable pub thing : Listed → (first : List ℕ) → Read → Listed
thing s first r = cond (eqb r.ended 0) (added s first r.set) (told s (fault_at s.lines r.word r.ended (get_or r.set of_below 0)))

unfoldable pub wordy : Listed → (line : List ℕ) → (words : List (List ℕ)) → Listed
wordy s line [] = counted s s.begun
wordy s line (first ∷ words) = thing (counted s true) first (read_line s.version s.begun line)

-- "every faulty line is told"
unfoldable pub with_line : Listed → (line : List ℕ) → Listed
with_line s line = cond (ltb longest_line (length line)) (told (counted s s.begun) (fault_at (s.lines + 1) [] long_line 0)) (wordy s line (words_of line))

unfoldable pub with_lines : Listed → (lines : List (List ℕ)) → Listed
with_lines s [] = s
with_lines s (line ∷ lines) = with_lines (with_line s line) lines

-- what can be told only at the end, with the line after the last: no fan, no system, no board in version 3
abbrev pub missing : (lines : ℕ) (lacks : Bool) (wanted : ℕ) → List Fault
missing lines lacks wanted = cond lacks (fault_at (lines + 1) [] wanted 0 ∷ []) []

-- and fans on boards that are not there, once for each line; `told` is the line told last
unfoldable pub unplaced : (g told : ℕ) (boards lines : List ℕ) → List Fault
unplaced g told [] lines = []
unplaced g told (b ∷ boards) [] = []
unplaced g told (b ∷ boards) (line ∷ lines) =
    cond (ltb g b && not (eqb line told)) (fault_at line (decimal b) no_such_board g ∷ unplaced g line boards lines) (unplaced g told boards lines)

abbrev pub last_faults : Listed → List Fault
last_faults s =
    missing s.lines (eqb (length s.survival) 0) no_fan
    ++ missing s.lines (eqb (length s.systems) 0) no_system
    ++ missing s.lines (eqb s.version 3 && eqb (length s.switchboards) 0) no_board
    ++ cond (eqb (length s.switchboards) 0) [] (unplaced (length s.switchboards) 0 s.boards s.fan_lines)

abbrev pub listed : (text : List ℕ) → Listed
listed text = with_lines nothing (lines_of text)

unfoldable pub faults_of : (text : List ℕ) → List Fault
faults_of text = (listed text).faults ++ last_faults (listed text)

-- "with from A to B after it if not the whole deck"
abbrev pub five_of : (n : ℕ) (set : List ℕ) → List ℕ
five_of n set =
    get_or set of_number 0 ∷ get_or set of_first 0 ∷ get_or set of_second 0
    ∷ cond (eqb (get_or set of_given 0) 0) 1 (get_or set of_a 0) ∷ cond (eqb (get_or set of_given 0) 0) n (get_or set of_b 0) ∷ []

unfoldable pub numbers_of : (n : ℕ) (systems : List (List ℕ)) → List ℕ
numbers_of n [] = []
numbers_of n (set ∷ systems) = five_of n set ++ numbers_of n systems

-- the deck that is typed
abbrev pub typed_by : Listed → Typed
typed_by s =
    typed_of s.version s.survival s.weights s.boards s.switchboards (numbers_of (length s.survival) s.systems)

unfoldable pub typed_text : (text : List ℕ) → Typed
typed_text text = typed_by (listed text)
