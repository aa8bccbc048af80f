-- `bytes::put4` meets its contract: a number of four bytes is its two halves, the lower one first. Assumes nothing.
use mathlib.Core.Path.{sym, ap, ◌∙◌}
use Prim.Native.Nat.{◌%◌}
use native.Mathlib.Omega.{arith}
use borrow.Author.Rules.{rules}
use Rattle.writer.specs.Laid.{laid}
use Rattle.layout.proofs.Numbers.{bytes-length}
use Rattle.writer.proofs.Laying.{laid_next, bytes-four}
use Rattle.writer.proofs.bytes.put4.Goals as goal

pub returns : goal.returns
returns c =
    laid_next _ _ _ _ _ c.put2.ensures c.put2-2.ensures (omega (arith, bytes-length 2 (c.args.x % 65536))) (omega arith)
    ∙ ap (λ bytes. laid c.args.at bytes c.args.room.now) (sym (bytes-four c.args.x))
