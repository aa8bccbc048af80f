-- `with_line` meets its contract: a line that is too long, one without words, one with words. Assumes nothing.
use native.Mathlib.Omega.{arith}
use Rattle.grammar.specs.Text.{counted}
use Rattle.listing.proofs.Holding.{long-line, blank-line, wordy-line}
use Rattle.listing.proofs.with_line.Goals as goal

pub tell-requires : goal.tell-requires
tell-requires c =
    c.count_line-next.ensures.sane _ c.requires.1

pub returns-then-line-gt-LONGEST_LINE : goal.returns-then-line-gt-LONGEST_LINE
returns-then-line-gt-LONGEST_LINE c =
    record {
      sane = c.tell.ensures.sane;
      few = omega (arith, c.tell.ensures.few, c.count_line-next.ensures.one);
      holds = λ s h.
          let next = c.count_line-next.ensures.holds _ s h in
          let e = c.tell.ensures.holds (counted s c.args.listing.begun) next in
          long-line s c.args.line.now c.if-line-gt-LONGEST_LINE.true (rw (next.lines, h.begun) at e);
    }

pub returns-then-from-upto : goal.returns-then-from-upto
returns-then-from-upto c =
    record {
      sane = c.count_line.ensures.sane _ c.requires.1;
      few = omega (arith, c.count_line.ensures.one);
      holds = λ s h. blank-line s c.args.line.now c.if-line-gt-LONGEST_LINE.false (c.next-first.ensures.none c.if-from-upto.true) (rw h.begun at (c.count_line.ensures.holds _ s h));
    }

pub returns : goal.returns
returns c =
    record {
      sane = c.with_words.ensures.sane;
      few = c.with_words.ensures.few;
      holds = λ s h. wordy-line s c.args.line.now c.if-line-gt-LONGEST_LINE.false _ _ (c.next-first.ensures.some (omega (arith, c.next-first.ensures.mid, c.if-from-upto.false))) (c.with_words.ensures.holds s h);
    }
