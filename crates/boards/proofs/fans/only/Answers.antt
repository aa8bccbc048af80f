-- `fans::only` meets its contract: the board's bit, by its number. Assumes nothing.
use mathlib.Core.Path.{◌≡◌}
use native.Mathlib.Omega.{arith}
use Rattle.rules.specs.Boards.{board_down}
use Rattle.boards.proofs.fans.only.Goals as goal

pub returns-in-0 : goal.returns-in-0
returns-in-0 c some = absurd (omega (arith, c.in-0.is))

pub returns-in-1 : goal.returns-in-1
unfolding board_down
returns-in-1 c some = rw c.in-1.is

pub returns-in-2 : goal.returns-in-2
unfolding board_down
returns-in-2 c some = rw c.in-2.is

pub returns-in-3 : goal.returns-in-3
unfolding board_down
returns-in-3 c some = rw c.in-3.is

pub returns-in_default : goal.returns-in_default
unfolding board_down
returns-in_default c some =
    let last : c.args.board ≡ 4 = omega arith in
    rw last
