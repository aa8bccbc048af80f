-- A run of cases: a case that ends within the file is passed, and what was put is what is written. Assumes nothing.
use Rattle.std.proofs.Common.{◌≡◌, ℕ, ◌≤◌, List, length, sym, ◌∙◌, length-take-le}
use Rattle.io.specs.Counts.{IsPrefixLen}
use Rattle.casefile.specs.Cases.{Running}

module _ {bytes before out : List ℕ} {at end : ℕ} (run : Running bytes before at out end) where
  pub case-passed : {next stop : ℕ} {after : List ℕ} → next ≤ length bytes → length after ≡ length out → stop ≤ length after
      → Running bytes before next after stop
  case-passed ends kept within = record { place = ends; kept = kept ∙ run.kept; within = within }

  pub run-written : IsPrefixLen end out
  run-written = (run.within, sym (length-take-le end out run.within))
