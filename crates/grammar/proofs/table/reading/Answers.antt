-- `table::reading` meets its contract, way by way. Assumes nothing.
use mathlib.Core.Path.{sym, ◌∙◌}
use Rattle.grammar.proofs.Ways.{read-parts, read_number, read-boardless, read-boards, read_letters}
use Rattle.grammar.proofs.table.reading.Goals as goal

pub returns-then-way-eq-AS_PARTS : goal.returns-then-way-eq-AS_PARTS
returns-then-way-eq-AS_PARTS c = c.parts.ensures ∙ sym (read-parts _ _ _ c.if-way-eq-AS_PARTS.true)

pub returns-then-way-eq-AS_NUMBER : goal.returns-then-way-eq-AS_NUMBER
returns-then-way-eq-AS_NUMBER c = c.whole.ensures.0 ∙ sym (read_number _ _ _ c.if-way-eq-AS_PARTS.false c.if-way-eq-AS_NUMBER.true)

pub returns-then-version-ne-BOARDED : goal.returns-then-version-ne-BOARDED
returns-then-version-ne-BOARDED c = sym (read-boardless _ _ _ c.if-way-eq-AS_PARTS.false c.if-way-eq-AS_NUMBER.false c.if-way-eq-WITH_BOARDS.true c.if-version-ne-BOARDED.true)

pub returns-then-way-eq-WITH_BOARDS : goal.returns-then-way-eq-WITH_BOARDS
returns-then-way-eq-WITH_BOARDS c = c.letters.ensures ∙ sym (read-boards _ _ _ c.if-way-eq-AS_PARTS.false c.if-way-eq-AS_NUMBER.false c.if-way-eq-WITH_BOARDS.true c.if-version-ne-BOARDED.false)

pub returns : goal.returns
returns c = c.letters-2.ensures ∙ sym (read_letters _ _ _ c.if-way-eq-AS_PARTS.false c.if-way-eq-AS_NUMBER.false c.if-way-eq-WITH_BOARDS.false)
