-- `with_words` meets its contract: a line whose reading ends at a fault is told, another adds what it has set. Assumes nothing.
use mathlib.Core.Bool.{true}
use Rattle.grammar.specs.Text.{counted}
use Rattle.listing.proofs.Holding.{within-read, with-fault, with-thing}
use native.Mathlib.Omega.{arith}
use Rattle.listing.proofs.with_words.Goals as goal

pub tell-requires : goal.tell-requires
tell-requires c =
    c.count_line-next.ensures.sane _ c.requires.1

pub returns-then-read-ne0 : goal.returns-then-read-ne0
returns-then-read-ne0 c =
    record {
      sane = c.tell.ensures.sane;
      few = omega (arith, c.tell.ensures.few, c.count_line-next.ensures.one);
      holds = λ s h.
          let next = c.count_line-next.ensures.holds _ s h in
          with-fault _ _ _ c.read_line-read.ensures s h _ _ next.lines c.if-read-ne0.true (c.tell.ensures.holds (counted s true) next);
    }

pub added-requires : goal.added-requires
added-requires c =
    (c.count_line-next.ensures.sane _ c.requires.1, within-read c.args.listing _ _ c.read_line-read.ensures)

pub returns : goal.returns
returns c =
    record {
      sane = c.added.ensures.sane;
      few = omega (arith, c.added.ensures.few, c.count_line-next.ensures.one);
      holds = λ s h.
          let next = c.count_line-next.ensures.holds _ s h in
          with-thing _ _ _ c.read_line-read.ensures s h _ c.if-read-ne0.false (c.added.ensures.holds (counted s true) next);
    }
