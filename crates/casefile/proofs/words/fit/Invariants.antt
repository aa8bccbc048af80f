-- `words::fit` meets its contract: every word passed is below the limit. Assumes nothing.
use Rattle.std.proofs.Common.{ℕ, ◌+◌, ◌<◌}
use Rattle.casefile.specs.Words.{word_at}
use Rattle.casefile.proofs.words.fit.Given as goal

abbrev pub invariant-loop-k : goal.invariant-loop-k
invariant-loop-k l = (j : ℕ) → j < l.k → word_at l.bytes (l.at + j) < l.limit
