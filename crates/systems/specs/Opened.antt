-- The refusal of a file that was opened and of a system number, before the system's own.
use Rattle.std.specs.Prelude.{Result, Ok, Err, cond, not, ℕ}
use Rattle.rules.specs.declared.refusal.Refusal.{Refusal}
use Rattle.rules.specs.Below.{within}
use Rattle.rules.specs.Refusal.{number}
use Rattle.deck.specs.declared.Head.{Head}

-- a file's own refusal, then 14
abbrev pub open_refusal : Result Head Refusal → ℕ → ℕ
open_refusal (Ok head) s = cond (not (within 1 s head.systems)) 14 0
open_refusal (Err refused) s = number refused
