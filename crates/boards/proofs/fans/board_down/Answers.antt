-- `fans::board_down` meets its contract: a bit by the board's number. Assumes nothing.
use mathlib.Core.Path.{◌≡◌}
use native.Mathlib.Omega.{arith}
use native.Mathlib.Nat.{div-one}
use Rattle.rules.specs.Boards.{board_down}
use Rattle.boards.proofs.fans.board_down.Goals as goal

pub returns-in-0 : goal.returns-in-0
unfolding board_down
returns-in-0 c = rw c.in-0.is

pub returns-in-1 : goal.returns-in-1
unfolding board_down
returns-in-1 c = rw (c.in-1.is, div-one c.args.out)

pub returns-in-2 : goal.returns-in-2
unfolding board_down
returns-in-2 c = rw c.in-2.is

pub returns-in-3 : goal.returns-in-3
unfolding board_down
returns-in-3 c = rw c.in-3.is

pub returns-in_default : goal.returns-in_default
unfolding board_down
returns-in_default c =
    let last : c.args.board ≡ 4 = omega arith in
    rw last
