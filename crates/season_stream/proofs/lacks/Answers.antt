-- `lacks` meets its contract: one byte, or what the file still asks for. Assumes nothing.
use mathlib.Core.Path.{sym}
use Prim.Native.Nat.{◌-◌}
use native.Mathlib.Omega.{arith}
use lib.Seq.{length-take-le}
use Rattle.ending.specs.Ending.{asks}
use Rattle.season_stream.proofs.Feeding.{takes-closed, takes-full}
use borrow.Author.Rules.{rules}
use Rattle.season_stream.proofs.lacks.Goals as goal

pub returns-then-before : goal.returns-then-before
returns-then-before c = (omega arith, omega arith, takes-closed c.args.before 1 c.if-before.true)

pub returns-then-before-eq-FILES : goal.returns-then-before-eq-FILES
returns-then-before-eq-FILES c =
    (omega arith, omega arith, takes-full c.args.before 1 c.if-before-eq-FILES.true)

pub slice_bounds-part-end : goal.slice_bounds-part-end
slice_bounds-part-end c = search rules

pub slice_bounds-asks-end : goal.slice_bounds-asks-end
slice_bounds-asks-end c =
    sym (length-take-le _ _ (omega (arith, c.requires.room, c.requires.within)))

pub asks-requires : goal.asks-requires
asks-requires c = search rules

pub overflow_sub-result : goal.overflow_sub-result
overflow_sub-result c =
    omega (arith, (c.requires.ongoing c.if-before.false).asking, c.asks.ensures.0)

pub returns : goal.returns
returns c =
    let asking = (c.requires.ongoing c.if-before.false).asking in
    (omega (arith, asking, c.asks.ensures), omega (arith, c.asks.ensures), λ now-open left. (omega (arith, asking, c.asks.ensures), omega (arith, asking, c.asks.ensures)))
