-- `verdict::pairs::some_lacks` meets its contract: the first pair, then the further ones. Assumes nothing.
use mathlib.Core.Path.{sym, ◌∙◌}
use Rattle.rules.specs.Pairs.{any_of}
use Rattle.verdict.proofs.InRange.{alone, rest}
use Rattle.verdict.proofs.pairs.some_lacks.Goals as goal

pub lacks-requires : goal.lacks-requires
lacks-requires c = alone c.requires.start

pub returns-then-lacks : goal.returns-then-lacks
unfolding any_of
returns-then-lacks c = rw (sym c.lacks.ensures ∙ c.if-lacks.true)

pub further_lacks-requires : goal.further_lacks-requires
further_lacks-requires c =
    record { few = c.requires.few; start = rest c.requires.start }

pub returns : goal.returns
unfolding any_of
returns c = rw (sym c.lacks.ensures ∙ c.if-lacks.false) c.further_lacks.ensures
