-- How long lines can be: no number has more than 20 digits and a minus, and no stretch more than 64 fans. Assumes nothing.
use mathlib.Core.List.{List}
use Prim.Native.Nat.{ℕ, ◌≤◌}
use native.Mathlib.Omega.{arith}
use lib.IntN.{sub_ℕ}
use lib.ListN.{length, length-append}
use Rattle.text.proofs.Digits.{decimal-short, signed-short}
use Rattle.places.specs.declared.Ends.{Ends}
use Rattle.spare_lines.specs.Lines.{gain_line, gain_room}

pub gain-short : (s fan : ℕ) (after before : Ends) → length (gain_line s fan after before) ≤ gain_room
gain-short s fan after before =
    simp length-append
    (omega (
      arith,
      decimal-short s,
      decimal-short fan,
      signed-short (sub_ℕ after.low before.high),
      signed-short (sub_ℕ after.high before.low),
    ))
