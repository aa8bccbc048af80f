-- `put_cards` meets its contract: each system ends within the room, and each place is one of the file's. Assumes nothing.
use lib.ListN.{length}
use Prim.Native.Nat.{◌≤◌}
use Rattle.deckpage.proofs.put_cards.Given as goal

abbrev pub invariant-loop-s : goal.invariant-loop-s
invariant-loop-s l = l.end ≤ length l.out
