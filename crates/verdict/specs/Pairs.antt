-- Kind 8: what is handed on with a start that is looked at.
use Rattle.std.specs.Prelude.{◌≡◌, true, List, ℕ, ◌^◌, ◌≤◌, ◌<◌}
use Rattle.rules.specs.declared.Pair.{Pair}
use Rattle.rules.specs.Pairs.{in_range8}
use Rattle.rules.specs.Refusal.{most}

-- pairs in range over a word of n components
pub record Judgeable (n w : ℕ) (ps : List Pair) : Type 0 where
  pub size : n ≤ most
  pub word : w < 2 ^ n
  pub range : in_range8 n ps ≡ true

-- a start on the line
pub record From (n w a : ℕ) (ps : List Pair) : Type 0 where
  pub judgeable : Judgeable n w ps
  pub start : a < n
