-- `words::longs` meets its contract: the list so far has the words in its first k places. Assumes nothing.
use Rattle.casefile.specs.Words.{low_words, long_limit}
use Rattle.casefile.specs.Begins.{Begins}
use Rattle.casefile.proofs.words.longs.Given as goal

abbrev pub invariant-loop-k : goal.invariant-loop-k
invariant-loop-k l =
    Begins (low_words long_limit l.bytes l.at) l.initial.into l.into l.k
