-- `read_lines` meets its contract: a turn reads one line that ends in the text. The measure is what is left. Assumes nothing.
use mathlib.Core.Path.{◌≡◌}
use Prim.Native.Nat.{◌-◌, ◌≤◌}
use lib.ListN.{length, take}
use Rattle.grammar.specs.Words.{lines_of}
use Rattle.grammar.specs.Grammar.{grammar}
use Rattle.grammar.specs.Text.{with_lines}
use Rattle.listing.specs.Holds.{Steps}
use Rattle.listing.proofs.Ends.{Whole}
use Rattle.listing.proofs.read_lines.Given as goal

abbrev pub invariant-loop-at : goal.invariant-loop-at
invariant-loop-at l = (l.at ≤ length l.text) × (l.table ≡ grammar) × Whole (take l.at l.text) × Steps l.at l.initial.next l.initial.out l.next l.out (λ s. with_lines s (lines_of (take l.at l.text))) × (length l.out ≡ length l.initial.out)

abbrev pub decreases-loop-at : goal.decreases-loop-at
decreases-loop-at l = length l.text - l.at
