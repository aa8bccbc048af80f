-- `settled` meets its contract: the reading has ended, nothing is left of a file, or one is cut short. Assumes nothing.
use mathlib.Core.Path.{sym}
use native.Mathlib.Omega.{arith}
use lib.Seq.{length-take-le}
use Rattle.season_stream.proofs.Feeding.{ends-closed, ends-none, ends-part, not_full}
use borrow.Author.Rules.{rules}
use Rattle.season_stream.proofs.settled.Goals as goal

pub returns-then-before : goal.returns-then-before
returns-then-before c = ends-closed c.requires c.if-before.true

pub returns-then-kept-eq0 : goal.returns-then-kept-eq0
returns-then-kept-eq0 c =
    ends-none c.requires c.if-before.false c.if-kept-eq0.true

pub slice_bounds-part-end : goal.slice_bounds-part-end
slice_bounds-part-end c = search rules

pub slice_bounds-plus_file-end : goal.slice_bounds-plus_file-end
slice_bounds-plus_file-end c =
    sym (length-take-le _ _ (omega (arith, c.requires.room, c.requires.within)))

pub plus_file-last-requires : goal.plus_file-last-requires
plus_file-last-requires c =
    (c.requires.ongoing c.if-before.false).spare (not_full c.requires c.if-before.false c.if-kept-eq0.false)

pub returns : goal.returns
returns c =
    ends-part c.requires c.if-before.false c.if-kept-eq0.false _ c.plus_file-last.ensures
