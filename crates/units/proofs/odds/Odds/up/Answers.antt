-- `up` meets its contract: by P's share, or by the plain step where no share is asked for. Assumes nothing.
use mathlib.Core.Path.{sym, ◌∙◌}
use native.Mathlib.Omega.{arith}
use Rattle.units.proofs.Rows.{mixable, row_up}
use Rattle.units.proofs.odds.Odds.up.Goals as goal

pub shared-requires : goal.shared-requires
shared-requires c =
    mixable (omega arith) c.requires.0 c.requires.1 (sym c.by_shares.ensures ∙ c.if-by_shares.true)

pub returns-then-by_shares : goal.returns-then-by_shares
returns-then-by_shares c =
    c.shared.ensures ∙ row_up (mixable (omega arith) c.requires.0 c.requires.1 (sym c.by_shares.ensures ∙ c.if-by_shares.true))

pub narrow-left-requires : goal.narrow-left-requires
narrow-left-requires c = omega (arith, c.requires.1.left, c.requires.0.unit.most)

pub narrow-right-requires : goal.narrow-right-requires
narrow-right-requires c = omega (arith, c.requires.1.right, c.requires.0.unit.most)

pub round_up-requires : goal.round_up-requires
round_up-requires c =
    record {
      unit = c.requires.0.unit;
      survival = c.requires.0.survival;
      rest = c.requires.0.rest;
      left = rw c.narrow-left.ensures c.requires.1.left;
      right = rw c.narrow-right.ensures c.requires.1.right;
    }

pub returns : goal.returns
returns c = rw (c.narrow-left.ensures, c.narrow-right.ensures) at c.round_up.ensures
