-- `cases::rule_at` meets its contract, word by word. Assumes nothing.
use Rattle.std.proofs.Common.{rules}
use Rattle.casefile.proofs.cases.rule_at.Goals as goal

pub word-kind-requires : goal.word-kind-requires
word-kind-requires c = search rules

pub overflow_add-at : goal.overflow_add-at
overflow_add-at c = search rules

pub word-first-requires : goal.word-first-requires
word-first-requires c = search rules

pub overflow_add-at-2 : goal.overflow_add-at-2
overflow_add-at-2 c = search rules

pub word-second-requires : goal.word-second-requires
word-second-requires c = search rules

pub returns : goal.returns
returns c =
    λ x. record { kind = c.word-kind.ensures x; first = c.word-first.ensures x; second = c.word-second.ensures x }
