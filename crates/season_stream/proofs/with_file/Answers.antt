-- `with_file` meets its contract: the last one that is read, or another. Assumes nothing.
use Prim.Native.Nat.{◌+◌}
use borrow.Author.Tests.{eq-eqb, ne_eqb}
use Rattle.totals.specs.Room.{most_files}
use borrow.Author.Rules.{rules}
use Rattle.season_stream.proofs.with_file.Goals as goal

pub overflow_add-files : goal.overflow_add-files
overflow_add-files c = search rules

pub returns-then-files-eq-FILES : goal.returns-then-files-eq-FILES
returns-then-files-eq-FILES c =
    rw (eq-eqb (c.args.before.files + 1) most_files c.if-files-eq-FILES.true)

pub returns : goal.returns
returns c =
    rw (ne_eqb (c.args.before.files + 1) most_files c.if-files-eq-FILES.false)
