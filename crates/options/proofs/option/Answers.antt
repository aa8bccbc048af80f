-- `option` meets its contract, test by test. Assumes nothing.
use mathlib.Core.Path.{sym, ◌∙◌}
use Rattle.options.proofs.option.Goals as goal

pub returns-then-same : goal.returns-then-same
returns-then-same c =
    rw (sym c.same.ensures ∙ c.if-same.true) c.end.ensures

pub returns-then-same-2 : goal.returns-then-same-2
returns-then-same-2 c =
    rw (sym c.same.ensures ∙ c.if-same.false, sym c.same-2.ensures ∙ c.if-same-2.true) c.decide.ensures

pub returns-then-same-3 : goal.returns-then-same-3
returns-then-same-3 c =
    let not-ended = sym c.same.ensures ∙ c.if-same.false in
    let no-help = sym c.same-2.ensures ∙ c.if-same-2.false in
    rw (not-ended, no-help, sym c.same-3.ensures ∙ c.if-same-3.true) c.decide-then-same-3.ensures

pub returns : goal.returns
returns c =
    let not-ended = sym c.same.ensures ∙ c.if-same.false in
    let no-help = sym c.same-2.ensures ∙ c.if-same-2.false in
    let no-version = sym c.same-3.ensures ∙ c.if-same-3.false in
    rw (not-ended, no-help, no-version, sym c.option_in.ensures) c.row.ensures
