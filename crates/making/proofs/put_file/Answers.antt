-- `making::put_file` meets its contract: the lists that are lent are the typed deck, and what the writer does not refuse stands at the room's front. Assumes nothing.
use mathlib.Core.Path.{refl, sym}
use native.Mathlib.Omega.{arith}
use lib.Seq.{length-take-le}
use Rattle.grammar.specs.Text.{typed_by}
use Rattle.listing.proofs.Handed.{held-typed}
use Rattle.making.proofs.Filing.{written-counts, file-written, never_other}
use Rattle.making.proofs.put_file.Goals as goal

pub overflow_cast-n : goal.overflow_cast-n
overflow_cast-n c =
    omega (arith, c.requires.fans.few)

pub numbers-numbers-requires : goal.numbers-numbers-requires
numbers-numbers-requires c =
    omega (arith, c.requires.systems)

pub overflow_mul-end : goal.overflow_mul-end
overflow_mul-end c =
    omega (arith, c.requires.systems)

pub slice_bounds-survival-end : goal.slice_bounds-survival-end
slice_bounds-survival-end c =
    omega (arith, c.requires.fans.few, c.requires.fans.survival)

pub slice_bounds-write_deck-end : goal.slice_bounds-write_deck-end
slice_bounds-write_deck-end c = sym (length-take-le _ _ ((omega (arith, c.requires.fans.few, c.requires.fans.survival))))

pub slice_bounds-weights-end : goal.slice_bounds-weights-end
slice_bounds-weights-end c =
    omega (arith, c.requires.fans.few, c.requires.fans.weights)

pub slice_bounds-write_deck-end-2 : goal.slice_bounds-write_deck-end-2
slice_bounds-write_deck-end-2 c = sym (length-take-le _ _ ((omega (arith, c.requires.fans.few, c.requires.fans.weights))))

pub slice_bounds-boards-end : goal.slice_bounds-boards-end
slice_bounds-boards-end c =
    omega (arith, c.requires.fans.few, c.requires.fans.boards)

pub slice_bounds-write_deck-end-3 : goal.slice_bounds-write_deck-end-3
slice_bounds-write_deck-end-3 c = sym (length-take-le _ _ ((omega (arith, c.requires.fans.few, c.requires.fans.boards))))

pub slice_bounds-switchboards-end : goal.slice_bounds-switchboards-end
slice_bounds-switchboards-end c =
    omega (arith, c.requires.boards, c.requires.switchboards)

pub slice_bounds-write_deck-end-4 : goal.slice_bounds-write_deck-end-4
slice_bounds-write_deck-end-4 c = sym (length-take-le _ _ ((omega (arith, c.requires.boards, c.requires.switchboards))))

pub slice_bounds-numbers-end : goal.slice_bounds-numbers-end
slice_bounds-numbers-end c =
    omega (arith, c.requires.systems)

pub slice_bounds-write_deck-end-5 : goal.slice_bounds-write_deck-end-5
slice_bounds-write_deck-end-5 c = sym (length-take-le _ _ ((omega (arith, c.requires.systems))))

pub returns-in-Written : goal.returns-in-Written
returns-in-Written c =
    let wrote-file = rw c.in-Written.is at c.write_deck-written.ensures in
    record {
      counts = written-counts _ _ _ _ wrote-file;
      stands = λ s told h none.
          let e = held-typed h c.numbers-numbers.result c.numbers-numbers.ensures in
          file-written (typed_by s) _ _ _ (rw e at wrote-file);
    }

pub returns-in-Refused : goal.returns-in-Refused
returns-in-Refused c =
    record {
      counts = (omega arith, refl);
      stands = λ s told h none.
          let e = held-typed h c.numbers-numbers.result c.numbers-numbers.ensures in
          absurd (never_other (typed_by s) _ _ none _ (rw (e, c.in-Refused.is) at c.write_deck-written.ensures));
    }
