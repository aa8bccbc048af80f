-- What the public call answers, and what it leaves in the working table and in the room for the counts: each as document 01 has it.
use Rattle.std.specs.Prelude.{◌≡◌, List, ℕ}
use Rattle.rules.specs.declared.Rule.{Rule}
use Rattle.rules.specs.declared.Counting.{Counting}
use Rattle.rules.specs.Refusal.{count_refusal}
use Rattle.rules.specs.Answer.{Counts, table_after, room_after}

pub record Outcome (rule : Rule) (n : ℕ) (weights table room : List ℕ) (answer : Counting) (tableExit roomExit : List ℕ) : Type 0 where
  pub answered : Counts answer (count_refusal rule n weights table room)
  pub cleared : tableExit ≡ table_after (count_refusal rule n weights table room) table
  pub written : roomExit ≡ room_after (count_refusal rule n weights table room) rule n weights room
