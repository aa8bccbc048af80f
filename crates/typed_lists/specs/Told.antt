-- Faults told: the lines of the first twenty stand at a buffer's front.
use Rattle.std.specs.Prelude.{◌≡◌, List, ◌++◌, ℕ, ◌+◌, ◌-◌, ◌*◌, ◌≤◌, length, take}
use Rattle.grammar.specs.Text.{Fault}
use Rattle.faults.specs.Told.{faults_text, fault_room, most_told}
use Rattle.typed_lists.specs.declared.told.Told.{Told}

-- room for all that may be told
abbrev pub told_room : ℕ
told_room = most_told * fault_room

-- and for what may still be told
abbrev pub Roomy : Told → (out : List ℕ) → Type 0
Roomy t out = t.end + (most_told - t.count) * fault_room ≤ length out

pub record Telling (t : Told) (faults : List Fault) (out : List ℕ) : Type 0 where
  pub count : t.count ≡ length (take most_told faults)
  pub text : take t.end out ≡ faults_text (take most_told faults)
  pub room : Roomy t out

-- these told more, whatever was told; what may still be told has room
pub record MoreTold (before : Told) (out : List ℕ) (after : Told) (then : List ℕ) (faults : List Fault) : Type 0 where
  pub room : Roomy after then
  pub telling : (so_far : List Fault) → Telling before so_far out → Telling after (so_far ++ faults) then
