-- Row 8 as the program reads it: the states of the last components as bits.
use Rattle.std.specs.Prelude.{Bool, true, cond, not, List, ℕ, ◌+◌, ◌-◌, ◌*◌, ◌/◌, ◌%◌, ◌^◌}
use Rattle.rules.specs.declared.Pair.{Pair}
use Rattle.rules.specs.Below.{some}
use Rattle.rules.specs.Memory.{live, dead, Row, longest, lacking_in}
use Rattle.rules.specs.Pairs.{longest_window}
use Rattle.memory.specs.declared.pattern.Pattern.{Pattern}

abbrev pub pattern : ℕ → Pattern
pattern m = record { bits = m }

-- more than any pattern, the component just read among its states
abbrev pub many_patterns : ℕ
many_patterns = 1024

-- the bit of the oldest state that is kept; one is kept at the least
abbrev pub oldest_of : List Pair → ℕ
oldest_of ps = 2 ^ (longest ps - 2)

-- dead where the next component fails
unfoldable pub dies : List Pair → ℕ → Bool
dies ps m = lacking_in ps (2 * m + 1)

-- the oldest state is forgotten, and one is read; a working component leaves what lives alive
abbrev pub patterned : List Pair → Row ℕ
patterned ps = record {
  start = 0;
  working = λ i m. live (2 * (m % oldest_of ps));
  failing = λ i m. cond (dies ps m) dead (live (2 * (m % oldest_of ps) + 1));
  end = λ m. true;
}

-- no component read has left too few working
unfoldable pub lives : List Pair → ℕ → Bool
lives ps m = not (some (λ a. lacking_in ps (m / 2 ^ a)) longest_window)
