-- What the cases of several programs share, and how far a run of them has come.
use Rattle.std.specs.Prelude.{◌≡◌, ℕ, ◌+◌, ◌-◌, ◌<◌, ◌≤◌, List, length}
use Rattle.rules.specs.declared.Rule.{Rule}
use Rattle.casefile.specs.Rooms.{most_numbers}
use Rattle.casefile.specs.Words.{word_at, short_limit}

-- the rule in three words
abbrev pub rule_at : (bytes : List ℕ) (at : ℕ) → Rule
rule_at bytes at = record { kind = word_at bytes at; first = word_at bytes (at + 1); second = word_at bytes (at + 2) }

-- no words, or those of a list: how many numbers it has, and the numbers
pub record Listed (bytes : List ℕ) (at size : ℕ) : Type 0 where
  pub most : size ≤ 1 + most_numbers
  pub ends : 0 < size → at + size ≤ length bytes
  pub counted : 0 < size → size ≡ 1 + word_at bytes at

-- no words, or those of a case up to its weights: its head, whose last word is the number of the weights, and the weights
pub record Sized (bytes : List ℕ) (at head size : ℕ) : Type 0 where
  pub most : size ≤ head + most_numbers
  pub ends : at + size ≤ length bytes
  pub counted : 0 < size → size ≡ head + word_at bytes (at + (head - 1))
  pub small : (k : ℕ) → head + k < size → word_at bytes (at + head + k) < short_limit

-- a case of so many words, which ends within the file
pub record Within (bytes : List ℕ) (at head size : ℕ) : Type 0 where
  pub headed : head ≤ size
  pub most : size ≤ head + most_numbers
  pub ends : at + size ≤ length bytes

-- the next case begins within the file, and the lines so far end within the buffer, which is as long as it was
pub record Running (bytes before : List ℕ) (at : ℕ) (out : List ℕ) (end : ℕ) : Type 0 where
  pub place : at ≤ length bytes
  pub kept : length out ≡ length before
  pub within : end ≤ length out
