-- `byte_of` meets its contract: within the word its byte, behind it a blank. Assumes nothing.
use Rattle.options.proofs.Table.{in-word}
use lib.ListN.{get_or-eq_default}
use native.Mathlib.Omega.{arith}
use mathlib.Core.Path.{sym}
use Rattle.options.proofs.byte_of.Goals as goal

pub returns-then-j-word : goal.returns-then-j-word
returns-then-j-word c = in-word c.args.word.now c.args.j 0 32 c.if-j-word.true

pub returns : goal.returns
returns c = sym (get_or-eq_default c.args.word.now 32 {n = c.args.j} (omega (arith, c.if-j-word.false)))
