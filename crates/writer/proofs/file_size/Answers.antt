-- `writer::file_size` meets its contract. Assumes nothing.
use mathlib.Core.Path.{ap, ◌∙◌}
use Prim.Native.Nat.{◌/◌}
use native.Mathlib.Omega.{arith}
use lib.ListN.{length}
use Rattle.rules.specs.File.{per_system, file_length}
use borrow.Author.Rules.{rules}
use Rattle.writer.proofs.file_size.Goals as goal

pub file_length-requires : goal.file_length-requires
file_length-requires c = let own = ap length c.numbers_read-own.ensures in (omega (arith, c.requires.few), omega (arith, c.requires.boards), omega (arith, c.requires.fewer))

pub returns : goal.returns
returns c =
    c.file_length.ensures ∙ ap (λ xs. file_length c.args.version c.args.n (length xs) (length c.args.systems.now / per_system)) c.numbers_read-own.ensures
