-- `verdict::judge_windows` meets its contract: some window fails exactly if the lowest that does is at one of the starts. Assumes nothing.
use mathlib.Core.Bool.{Bool, true, false}
use Prim.Native.Nat.{ℕ, ◌≤◌}
use native.Mathlib.Omega.{arith}
use Rattle.rules.specs.State.{starts}
use Rattle.rules.specs.Verdict.{some_window, first_window}
use Rattle.verdict.proofs.Placed.{placed, nowhere}
use Rattle.verdict.proofs.judge_windows.Goals as goal

starts-le : (ring : Bool) (n width : ℕ) → 1 ≤ width → starts ring n width ≤ n
starts-le true n width l = omega arith
starts-le false n width l = omega arith

pub first_window-a-requires : goal.first_window-a-requires
first_window-a-requires c =
    (c.requires.0, c.requires.1, c.requires.2, c.requires.3, rw c.starts_of-starts.ensures (starts-le c.args.ring c.args.n c.args.width c.requires.0))

pub returns-then-a-starts : goal.returns-then-a-starts
unfolding some_window first_window
returns-then-a-starts c = rw (← c.starts_of-starts.ensures) (placed _ _ _ c.first_window-a.ensures c.if-a-starts.true)

pub returns : goal.returns
unfolding some_window first_window
returns c = rw (← c.starts_of-starts.ensures) (nowhere _ _ _ c.first_window-a.ensures c.if-a-starts.false)
