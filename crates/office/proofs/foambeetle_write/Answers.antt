-- `office::foambeetle_write` meets its contract: every answer of the writer can be packed. Assumes nothing.
use mathlib.Core.Path.{ap, ◌∙◌}
use borrow.Author.Rules.{rules}
use Rattle.writer.proofs.Outcome.{writing-is}
use Rattle.office.specs.Outcome.{packed_writing}
use Rattle.office.proofs.Packed.{packable}
use Rattle.office.proofs.foambeetle_write.Goals as goal

pub pack-requires : goal.pack-requires
pack-requires c = rw (writing-is c.write_deck.ensures) (packable _ _)

pub returns : goal.returns
returns c =
    record { number = c.pack.ensures ∙ ap packed_writing (writing-is c.write_deck.ensures); written = c.write_deck.ensures.written }
