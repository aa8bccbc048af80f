-- The bits of a list's floats, place by place. Assumes nothing.
use Rattle.std.proofs.Common.{◌≡◌, ℕ, zero, suc, ◌<◌, List, [], ◌∷◌, length, get_or, refl, arith}
use lib.Ieee.{Float, nan}
use Rattle.doubles.specs.Floats.{bits, bits_of}

pub bits-get : (xs : List Float) (i : ℕ) → i < length xs → get_or (bits_of xs) i 0 ≡ bits (get_or xs i nan)
bits-get [] i l = absurd (omega arith)
bits-get (x ∷ xs) zero l = refl
bits-get (x ∷ xs) (suc i) l = bits-get xs i (omega arith)
