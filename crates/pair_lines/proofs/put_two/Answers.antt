-- `put_two` meets its contract: the line of one fan, or that of the pair that leads when all are tried, which is the pair that the definitions name. Assumes nothing.
use mathlib.Core.List.{[]}
use native.Mathlib.Omega.{arith}
use borrow.Author.Tests.{eq-eqb, ne_eqb}
use Rattle.rules.specs.Asked.{Asked, asked_with, size_of}
use Rattle.spares.proofs.Rating.{inside}
use Rattle.pairs.specs.Pairs.{low_with_both, high_with_both}
use Rattle.pairs.specs.Tried.{Leads}
use Rattle.pairs.proofs.Pairs.{all-tried}
use Rattle.pairs.proofs.Rating.{pair-within}
use Rattle.pair_lines.proofs.Named.{named-text}
use Rattle.pair_lines.proofs.put_two.Goals as goal
use Rattle.pair_lines.proofs.put_two.Goals.{After-best_pair-best, Start}

-- what is asked
abbrev asked : Start → Asked
asked c = asked_with c.args.question c.args.lists.now

-- the pair that leads
leads : (c : After-best_pair-best) →
    let q = asked_with c.args.question c.args.lists.now in
    Leads (low_with_both q c.args.two.p) (high_with_both q c.args.two.p) (size_of q) (size_of q) 0 c.best_pair-best.result
leads c =
    let q = asked_with c.args.question c.args.lists.now in
    let h = inside q c.args.two.p c.requires.accepted in
    all-tried (omega (arith, c.if-question.false)) c.best_pair-best.ensures

pub returns-then-question : goal.returns-then-question
returns-then-question c =
    let q = asked ((goal.at.returns-then-question c).Start) in
    rw (eq-eqb q.a q.b c.if-question.true) c.put_one.ensures

pub put_fans-requires : goal.put_fans-requires
put_fans-requires c =
    let q = asked ((goal.at.put_fans-requires c).Start) in
    let h = leads ((goal.at.put_fans-requires c).After-best_pair-best) in
    let lies = inside q c.args.two.p c.requires.accepted in
    let within = pair-within q c.args.two.p c.requires.accepted c.best_pair-best.result.first c.best_pair-best.result.second in
    record {
      few = record {
        few = (omega (arith, h.pair), omega (arith, h.pair));
        within = (rw h.figures.0 within.0, rw h.figures.1 within.1);
      };
      room = c.requires.room;
    }

pub returns : goal.returns
returns c =
    let q = asked ((goal.at.returns c).Start) in
    rw (ne_eqb q.a q.b c.if-question.false, ← (named-text c.args.two.s c.args.two.p q c.is_decimal-decimal.result c.is_decimal-decimal.ensures (leads ((goal.at.returns c).After-best_pair-best)))) c.put_fans.ensures
