-- `taken` meets its contract: the reading has ended, bytes are waiting, the file is not whole yet, or it is (Feeding). Assumes nothing.
use mathlib.Core.Path.{refl, sym, ap, ◌∙◌}
use Prim.Native.Nat.{◌+◌, ◌≤◌, ◌<◌}
use native.Mathlib.Omega.{arith}
use lib.ListN.{length, take}
use lib.Seq.{length-take-le}
use Rattle.ending.specs.Ending.{asks, longest}
use Rattle.totals.specs.Room.{most_files}
use Rattle.season_stream.specs.Reading.{with_file}
use Rattle.season_stream.proofs.Feeding.{one_left, fed-closed, fed-full, fed-part, fed-file}
use borrow.Author.Rules.{rules}
use Rattle.season_stream.proofs.taken.Goals as goal
use Rattle.season_stream.proofs.taken.Goals.{After-old-1}

-- where a file is read on: another may be read, and what is asked for fits
left : (c : After-old-1) → c.args.before.files < most_files
left c =
    one_left c.requires.sane c.if-before.false c.if-before-eq-FILES.false

fits : (c : After-old-1) → c.args.before.kept + length c.args.more.now ≤ longest
fits c =
    (c.requires.more_nonzero.1 c.if-before.false (left c)).1

pub returns-then-before : goal.returns-then-before
returns-then-before c = fed-closed c.requires.sane c.if-before.true

pub returns-then-before-eq-FILES : goal.returns-then-before-eq-FILES
returns-then-before-eq-FILES c =
    fed-full _ c.requires.sane c.if-before.false c.requires.more_nonzero.0 c.if-before-eq-FILES.true

pub joined-part-requires : goal.joined-part-requires
joined-part-requires c =
    (c.requires.sane.room, fits ((goal.at.joined-part-requires c).After-old-1))

pub overflow_add-kept : goal.overflow_add-kept
overflow_add-kept c = search rules

pub slice_bounds-part-end : goal.slice_bounds-part-end
slice_bounds-part-end c = omega (arith, fits ((goal.at.slice_bounds-part-end c).After-old-1), c.joined-part.ensures.0)

pub slice_bounds-asks-end : goal.slice_bounds-asks-end
slice_bounds-asks-end c = sym (length-take-le _ _ (omega (arith, fits ((goal.at.slice_bounds-asks-end c).After-old-1), c.joined-part.ensures.0)))

pub asks-requires : goal.asks-requires
asks-requires c = search rules

pub returns-then-kept-asks : goal.returns-then-kept-asks
returns-then-kept-asks c =
    fed-part _ c.requires.sane c.if-before.false c.requires.more_nonzero.0 (left ((goal.at.returns-then-kept-asks c).After-old-1)) c.requires.more_nonzero.1 _ _ refl c.joined-part.ensures.0 c.joined-part.ensures.1 (omega (arith, c.asks.ensures.0))

pub slice_bounds-part-end-2 : goal.slice_bounds-part-end-2
slice_bounds-part-end-2 c =
    omega (arith, fits ((goal.at.slice_bounds-part-end-2 c).After-old-1), c.joined-part.ensures.0)

pub slice_bounds-plus_file-end : goal.slice_bounds-plus_file-end
slice_bounds-plus_file-end c = sym (length-take-le _ _ (omega (arith, fits ((goal.at.slice_bounds-plus_file-end c).After-old-1), c.joined-part.ensures.0)))

pub plus_file-requires : goal.plus_file-requires
plus_file-requires c =
    (c.requires.sane.ongoing c.if-before.false).spare (left ((goal.at.plus_file-requires c).After-old-1))

pub with_file-requires : goal.with_file-requires
with_file-requires c =
    left ((goal.at.with_file-requires c).After-old-1)

pub returns : goal.returns
returns c =
    let kept = c.args.before.kept + length c.args.more.now in
    let done : asks (take kept c.joined-part.result) ≤ kept = omega (arith, c.asks.ensures.0, c.if-kept-asks.false) in
    fed-file _ c.requires.sane c.if-before.false c.requires.more_nonzero.0 (left ((goal.at.returns c).After-old-1)) c.requires.more_nonzero.1 _ _ refl c.joined-part.ensures.0 c.joined-part.ensures.1 done
    (c.with_file.ensures ∙ ap (with_file c.args.before) c.plus_file.ensures)
