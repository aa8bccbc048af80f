-- `words::fulls` meets its contract: the list so far has the words in its first k places. Assumes nothing.
use Rattle.casefile.specs.Words.{words_from}
use Rattle.casefile.specs.Begins.{Begins}
use Rattle.casefile.proofs.words.fulls.Given as goal

abbrev pub invariant-loop-k : goal.invariant-loop-k
invariant-loop-k l =
    Begins (words_from l.bytes l.at) l.initial.into l.into l.k
