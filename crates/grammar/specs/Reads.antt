-- What the reader of a line answers.
use Rattle.std.specs.Prelude.{◌≡◌, List, ℕ, ◌≤◌, length, get_or}
use Rattle.grammar.specs.declared.line.Read.{Read}
use Rattle.grammar.specs.Grammar.{sets, most_set}
use Rattle.grammar.specs.Stands.{part}
use Rattle.grammar.specs.Line as spec

pub record Reads (line : List ℕ) (r : Read) (right : spec.Read) : Type 0 where
  pub low : r.from ≤ r.upto
  pub high : r.upto ≤ length line
  pub ended : r.ended ≡ right.ended
  pub word : part line r.from r.upto ≡ right.word
  pub set : r.set ≡ right.set

-- numbers that a line can have set: each within its slot's bound
pub record Within (set : List ℕ) : Type 0 where
  pub long : length set ≡ sets
  pub small : (k : ℕ) → get_or set k 0 ≤ get_or most_set k 0
