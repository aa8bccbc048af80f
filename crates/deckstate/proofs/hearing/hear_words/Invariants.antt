-- `hearing::hear_words` meets its contract: each word is heard at its place. Assumes nothing.
use mathlib.Core.Path.{◌≡◌}
use Prim.Native.Nat.{◌<◌}
use lib.ListN.{length}
use Rattle.options.specs.Words.{Sound}
use Rattle.deckstate.specs.Words.{longest_word}
use Rattle.deckstate.proofs.hearing.hear_words.Given as goal

abbrev pub invariant-loop-i : goal.invariant-loop-i
invariant-loop-i l = record { fewer : l.hearing.heard < l.i; sound : Sound l.hearing.asked; room : length l.word ≡ longest_word }
