-- `fans::behind` meets its contract: the numbers passed stand at the copy's front, those of lost fans 0. Assumes nothing.
use mathlib.Core.Path.{◌≡◌, refl, ap, ap₂, ◌∙◌}
use mathlib.Core.Bool.{cond}
use mathlib.Core.List.{[], ◌∷◌, ◌++◌}
use native.Mathlib.Omega.{arith}
use native.Mathlib.Numerals.{add-one}
use lib.ListN.{length, get_or, length-set}
use lib.Seq.{take-suc-set}
use Rattle.rules.specs.Below.{list_below}
use Rattle.rules.specs.State.{number_of}
use Rattle.rules.specs.Boards.{board_down, behind}
use Rattle.boards.proofs.fans.behind.Goals as goal

pub loop-i-init : goal.loop-i-init
unfolding list_below
loop-i-init c = (refl, refl)

pub loop-i-preserved : goal.loop-i-preserved
unfolding list_below number_of
loop-i-preserved c =
    let lost = c.board_down-lost.ensures ∙ ap (board_down c.args.out) c.board_of.ensures in
    let number = c.left.ensures ∙ ap (λ b. cond b 0 (get_or c.args.survival.now c.loop-i.i 0)) lost in (
      length-set c.loop-i.numbers c.loop-i.i _ ∙ c.loop-i.invariant.0,
      rw add-one (take-suc-set c.loop-i.numbers c.loop-i.i _ (omega arith) ∙ ap₂ (λ ns v. ns ++ (v ∷ [])) c.loop-i.invariant.1 number),
    )

pub returns : goal.returns
unfolding behind
returns c =
    let e : c.loop-i.i ≡ length c.args.survival.now = omega arith in
    record { front = rw e at c.loop-i.invariant.1 }
