-- `chance_between` hands on the file's refusal, or tells the system's answer in parts of the file's unit. Assumes nothing.
use mathlib.Core.Path.{◌≡◌, ap, ◌∙◌}
use mathlib.Core.List.{List}
use Prim.Native.Nat.{ℕ}
use Rattle.rules.specs.State.{unit_of}
use Rattle.rules.specs.File.{version_in, loading_of}
use Rattle.rules.proofs.Unless.{unless-some}
use Rattle.std.proofs.Common.{Ok}
use Rattle.deck.specs.declared.Head.{Head}
use Rattle.deck.specs.Outcome.{Opens}
use Rattle.deck.proofs.Outcome.{opened-headed, opened-refused}
use Rattle.between.proofs.Outcome.{loading-in-unit, enclosed}
use Rattle.between.proofs.chance_between.Goals as goal

-- the unit is the file's
own-unit : {file : List ℕ} {head : Head} (u : ℕ) → Opens file (Ok head) → u ≡ unit_of head.version → u ≡ unit_of (version_in file)
own-unit u opens e = e ∙ ap unit_of (opened-headed opens).says.version

pub told-requires : goal.told-requires
told-requires c =
    let is = own-unit _ c.in-Ok.ensures (c.whole-unit.ensures ∙ c.is_decimal.ensures) in
    rw (c.rate_opened.ensures, is) (loading-in-unit _ _)

pub returns-in-Ok : goal.returns-in-Ok
returns-in-Ok c =
    let is = own-unit _ c.in-Ok.ensures (c.whole-unit.ensures ∙ c.is_decimal.ensures) in
    enclosed _ _ _ is c.rate_opened.ensures c.told.ensures

pub returns-in-Err : goal.returns-in-Err
unfolding loading_of
returns-in-Err c =
    let own = c.number.ensures ∙ c.in-Err.ensures.refusal in
    record { answer = rw (unless-some _ _ _ (opened-refused c.in-Err.ensures)) own }
