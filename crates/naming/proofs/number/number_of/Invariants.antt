-- `number::number_of` meets its contract: what is spelled so far and the digits left spell the whole. Assumes nothing.
use mathlib.Core.Path.{◌≡◌}
use Prim.Native.Nat.{◌^◌, ◌≤◌, ◌<◌}
use lib.ListN.{length, drop}
use Rattle.naming.specs.Named.{longest_number, spelled}
use Rattle.naming.proofs.number.number_of.Given as goal

abbrev pub invariant-loop-byte : goal.invariant-loop-byte
invariant-loop-byte l =
    (l.number < 10 ^ l.byte-index) × (length l.word ≤ longest_number) × (spelled l.number (drop l.byte-index l.word) ≡ spelled 0 l.word)
