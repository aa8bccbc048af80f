-- `wanted::put_words` meets its contract, by the fault's number; what is below the faults of a place has no words. Assumes nothing.
use mathlib.Core.Path.{◌≡◌}
use Prim.Native.Nat.{◌-◌}
use native.Mathlib.Omega.{arith}
use borrow.Author.Tests.{lt-ltb, le-ltb}
use Rattle.text.proofs.Adding.{none-added}
use Rattle.grammar.specs.Grammar.{taken}
use Rattle.faults.specs.Wanted.{by_place}
use Rattle.faults.proofs.wanted.put_words.Goals as goal

pub returns-then-wanted-ge-NO_BOARDS : goal.returns-then-wanted-ge-NO_BOARDS
returns-then-wanted-ge-NO_BOARDS c = rw (le-ltb _ _ c.if-wanted-ge-NO_BOARDS.true) c.put_name.ensures

pub returns-then-wanted-lt-TAKEN : goal.returns-then-wanted-lt-TAKEN
unfolding by_place
returns-then-wanted-lt-TAKEN c =
    let e : c.args.wanted - taken ≡ 0 = omega arith in
    rw (lt-ltb _ _ c.if-wanted-ge-NO_BOARDS.false, e) (none-added c.args.out.now c.args.at)

pub returns : goal.returns
returns c =
    rw (lt-ltb _ _ c.if-wanted-ge-NO_BOARDS.false) c.put_place.ensures
