-- `dealt` is the share where it is asked for. Assumes nothing.
use mathlib.Core.Path.{sym, ◌∙◌}
use Rattle.units.proofs.Shares.{unasked}
use Rattle.units.proofs.share.dealt.Goals as goal

pub returns-then-by_shares : goal.returns-then-by_shares
returns-then-by_shares c = record { is = λ asked. c.share.ensures }

pub returns : goal.returns
returns c = unasked (sym c.by_shares.ensures ∙ c.if-by_shares.false)
