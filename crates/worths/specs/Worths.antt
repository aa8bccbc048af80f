-- "for each system the worth of every fan": what is drawn and named of a system's fans.
use Rattle.std.specs.Prelude.{◌≡◌, List, ℕ, ◌+◌, ℤ, pos}
use Rattle.rules.specs.Below.{list_below}
use Rattle.rules.specs.File.{fans_in, worth_in}
use Rattle.rules.specs.declared.Worth.{Worth}
use Rattle.rules.specs.declared.Worth.TheVariants.{Ends, Refused}
use Rattle.arrays.specs.Padded.{padded}
use Rattle.drawn.specs.declared.Worths.{Worths}
use Rattle.drawn.specs.Drawn.{most_drawn}

-- an end of a worth; 0 where there is none
abbrev pub lower_end : Worth → ℤ
lower_end (Ends lower upper) = lower
lower_end (Refused number) = pos 0

abbrev pub upper_end : Worth → ℤ
upper_end (Ends lower upper) = upper
upper_end (Refused number) = pos 0

-- "in deck order": that end of fans 1 to n for a file's system, counted from 0, and 0 behind the last
abbrev pub ends_in : (end : Worth → ℤ) (bytes : List ℕ) (s : ℕ) → List ℤ
ends_in end bytes s = padded most_drawn (pos 0) (list_below (fans_in bytes) (λ i. end (worth_in bytes s (i + 1))))

pub record Weighed (bytes : List ℕ) (s : ℕ) (w : Worths) : Type 0 where
  pub lower : w.lower ≡ ends_in lower_end bytes s
  pub upper : w.upper ≡ ends_in upper_end bytes s
