-- `put_report` meets its contract: what is settled is told of all bytes that are held. Assumes nothing.
use mathlib.Core.Path.{sym, ap, ◌∙◌}
use mathlib.Core.Bool.{not}
use lib.Dec.{eqb}
use Rattle.totals.specs.Plus.{one_if}
use Rattle.season_report.specs.Lines.{report_text}
use Rattle.season_stream.specs.declared.Season.{Season}
use Rattle.season_stream.proofs.Handed.{holds-end}
use borrow.Author.Rules.{rules}
use Rattle.season_stream.proofs.put_report.Goals as goal

pub settled-season-requires : goal.settled-season-requires
settled-season-requires c = search rules

pub one_if-requires : goal.one_if-requires
one_if-requires c = search rules

pub put_report-end-requires : goal.put_report-end-requires
put_report-end-requires c = search rules

pub shape_of-out : goal.shape_of-out
shape_of-out c = search rules

pub returns : goal.returns
returns c =
    record {
      counts = c.put_report-end.ensures.counts;
      text = λ bytes h.
          c.put_report-end.ensures.stands
          ∙ ap (report_text c.settled-season.result.totals) c.one_if.ensures
          ∙ ap (λ (s : Season). report_text s.totals (one_if s.waiting)) (c.settled-season.ensures ∙ sym (holds-end h));
      refused = λ bytes h. ap (λ (s : Season). not (eqb s.totals.refused 0)) (c.settled-season.ensures ∙ sym (holds-end h));
    }
