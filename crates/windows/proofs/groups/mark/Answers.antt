-- `mark` stores two marks. Assumes nothing.
use mir.Val.{bool_byte}
use mathlib.Core.Path.{◌≡◌, refl, ◌∙◌}
use mathlib.Core.Bool.{Bool, true, false}
use native.Mathlib.Omega.{arith}
use Prim.Native.Nat.{◌+◌, ◌*◌}
use Rattle.places.specs.Map.{marks}
use Rattle.windows.specs.Groups.{flag_of}
use Rattle.windows.proofs.Stores.{two}
use Rattle.windows.proofs.groups.mark.Goals as goal

-- a test as a number
flagged : (b : Bool) → bool_byte b ≡ flag_of b
flagged true = refl
flagged false = refl

pub returns : goal.returns
returns c =
    let s = two c.args.table.now (marks + 2 * c.args.m.bits) _ (marks + (2 * c.args.m.bits + 1)) _ (omega (arith, c.requires.low)) (omega (arith, c.requires.low)) (λ e. omega arith) c.requires.room in
    rw (c.worked-working.ensures, c.failed-failing.ensures)
    (record { first = s.first ∙ c.from.ensures ∙ flagged c.args.works; second = s.second ∙ c.from-2.ensures ∙ flagged c.args.fails; other = s.other; kept = s.kept })
