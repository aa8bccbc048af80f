-- `board_failed` meets its contract: the state so far is that of the fans passed. Assumes nothing.
use mathlib.Core.Path.{◌≡◌}
use Prim.Native.Nat.{◌^◌, ◌<◌}
use lib.Dec.{eqb}
use Rattle.rules.specs.State.{number_of}
use Rattle.rules.specs.Boards.{fans_down}
use Rattle.states.proofs.board_failed.Given as goal

abbrev pub invariant-loop-i : goal.invariant-loop-i
invariant-loop-i l = (l.after < 2 ^ l.i) × (l.after ≡ fans_down (λ k. eqb (number_of l.boards k) l.board) l.i l.state)
