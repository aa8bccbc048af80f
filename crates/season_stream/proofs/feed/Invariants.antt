-- `feed` meets its contract. The invariant: the state is fed the bytes passed. The measure is what is left of the piece. Assumes nothing.
use Prim.Native.Nat.{◌-◌, ◌≤◌}
use lib.ListN.{length, take}
use Rattle.season_stream.specs.Reading.{Fed}
use Rattle.season_stream.proofs.feed.Given as goal

abbrev pub invariant-loop-at : goal.invariant-loop-at
invariant-loop-at l = (l.at ≤ length l.piece) × Fed l.initial.next (take l.at l.piece) l.next

abbrev pub decreases-loop-at : goal.decreases-loop-at
decreases-loop-at l = length l.piece - l.at
