-- `rate_sure` rates the stretch with the fan's number replaced by the unit and then by 0: what is not refused is not refused so either, and the ends are the
use borrow.Author.Rules.{rules}
use mathlib.Core.Path.{◌≡◌, refl, ◌∙◌}
use Prim.Native.Nat.{◌≤◌, zero-le}
use native.Mathlib.Omega.{arith}
use Rattle.rules.specs.Asked.{Asked, asked_with, unit_in}
use Rattle.worth.proofs.Asking.{swappable, within, found}
use Rattle.worth.proofs.rate_sure.Goals as goal
use Rattle.worth.proofs.rate_sure.Goals.{After-whole}

-- differences of the two ratings' figures. Assumes nothing.
abbrev asked : After-whole → Asked
asked c =
    asked_with c.args.question c.args.lists.now

-- the number of a fan that is sure to work
unit : (c : After-whole) → c.whole.result ≡ unit_in (asked c)
unit c = c.whole.ensures ∙ c.is_decimal.ensures

not-above : (c : After-whole) → c.whole.result ≤ unit_in (asked c)
not-above c = omega (arith, unit c)

pub rate-works-requires : goal.rate-works-requires
rate-works-requires c =
    swappable _ c.args.fan _ c.requires c.whole.result (not-above ((goal.at.rate-works-requires c).After-whole)) _ (record { long = refl; rest = refl })

pub rate-fails-requires : goal.rate-fails-requires
rate-fails-requires c =
    swappable _ c.args.fan _ c.requires 0 zero-le _ c.rate-works.ensures.kept

pub difference-requires : goal.difference-requires
difference-requires c = record { after = within _ c.args.fan _ c.requires c.whole.result (not-above ((goal.at.difference-requires c).After-whole)) c.rate-works.ensures; before = within _ c.args.fan _ c.requires 0 zero-le c.rate-fails.ensures }

pub returns : goal.returns
returns c =
    found _ c.args.fan _ c.requires (unit ((goal.at.returns c).After-whole)) c.rate-works.ensures c.rate-fails.ensures c.difference.ensures
