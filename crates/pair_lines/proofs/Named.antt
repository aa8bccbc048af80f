-- The line of the pair that leads when all are tried is that of the best pair. Assumes nothing.
use mathlib.Core.Path.{◌≡◌}
use mathlib.Core.Bool.{Bool}
use Prim.Native.Nat.{ℕ, ◌+◌}
use Rattle.rules.specs.State.{unit_of}
use Rattle.rules.specs.Asked.{Asked, size_of}
use Rattle.units.specs.Step.{whole}
use Rattle.pairs.specs.declared.Best.{Best}
use Rattle.pairs.specs.Pairs.{low_with_both, high_with_both}
use Rattle.pairs.specs.Tried.{Leads}
use Rattle.pairs.proofs.Pairs.{leads-first, leads-second}
use Rattle.pair_lines.specs.Line.{fans_text, best_text}

pub named-text : (s p : ℕ) (q : Asked) {b : Best} (decimal : Bool) → whole decimal ≡ unit_of q.version
    → Leads (low_with_both q p) (high_with_both q p) (size_of q) (size_of q) 0 b
    → fans_text (whole decimal) s (q.a + b.first) (q.a + b.second) b.low b.high ≡ best_text s p q
named-text s p q decimal unit h = rw (unit, h.figures.0, h.figures.1, leads-first h, leads-second h)
