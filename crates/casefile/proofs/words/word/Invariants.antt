-- `words::word` meets its contract: the value is what the bytes read so far spell, and has no more bits than they. Assumes nothing.
use Rattle.std.proofs.Common.{◌≡◌, ◌+◌, ◌-◌, ◌*◌, ◌^◌, ◌<◌}
use Rattle.rules.specs.File.{number_at}
use Rattle.casefile.proofs.words.word.Given as goal

abbrev pub invariant-loop-i : goal.invariant-loop-i
invariant-loop-i l =
    (l.value < 2 ^ (64 - 8 * l.i)) × (l.value ≡ number_at (8 - l.i) l.bytes (l.start + l.i))
