-- `fans::felt` meets its contract: the board of each fan that was passed is in the set. Assumes nothing.
use mathlib.Core.Path.{◌≡◌}
use mathlib.Core.Bool.{true}
use Prim.Native.Nat.{ℕ, ◌≤◌, ◌<◌}
use lib.ListN.{get_or}
use Rattle.rules.specs.Boards.{board_down}
use Rattle.boards.proofs.fans.felt.Given as goal

abbrev pub invariant-loop-board : goal.invariant-loop-board
invariant-loop-board l = (k : ℕ) → k < l.board-index → 1 ≤ get_or l.boards k 0 → board_down l.set (get_or l.boards k 0) ≡ true
