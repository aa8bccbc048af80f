-- `systems::head_for` meets its contract: the file's own refusal, then 14. Assumes nothing.
use mathlib.Core.Path.{refl, sym, ap, ◌∙◌}
use mathlib.Core.Bool.{cond}
use Rattle.std.proofs.lemmas.Result.{err_from_is_err_and}
use Rattle.systems.proofs.head_for.Goals as goal

pub returns-in_err-head : goal.returns-in_err-head
returns-in_err-head c =
    let p = err_from_is_err_and c.from_residual.result c.from_residual.ensures.1 in
    rw (p.1, p.2, c.in_err-head.was) (record { refusal = refl; head = tt })

pub returns-then-outside : goal.returns-then-outside
returns-then-outside c =
    rw c.in_ok-head.was (record { refusal = ap (λ b. cond b 14 0) (sym c.if-outside.true ∙ c.outside.ensures); head = tt })

pub returns : goal.returns
returns c =
    rw c.in_ok-head.was (record { refusal = ap (λ b. cond b 14 0) (sym c.if-outside.false ∙ c.outside.ensures); head = refl })
