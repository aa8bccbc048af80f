-- The figures of a file's system stay within their unit, which is at most 2^30. Assumes nothing.
use mathlib.Core.List.{List}
use Prim.Native.Nat.{ℕ}
use Rattle.rules.specs.Within.{WithinUnit}
use Rattle.rules.specs.File.{system_of, answer_in}
use Rattle.rules.proofs.Within.{figures-within}

pub answer-within : (bytes : List ℕ) (s : ℕ) → WithinUnit (answer_in bytes s)
unfolding system_of
answer-within bytes s = figures-within _ _
