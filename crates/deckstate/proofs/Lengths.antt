-- How long a line can be: no number has more than 20 digits. Assumes nothing.
use Prim.Native.Nat.{ℕ, ◌≤◌}
use native.Mathlib.Omega.{arith}
use lib.Dec.{eqb}
use lib.ListN.{length, length-append}
use Rattle.rules.specs.declared.Verdict.{Verdict}
use Rattle.rules.specs.declared.Verdict.TheVariants.{Works, Fails, Refused}
use Rattle.rules.proofs.Tests.{by-test}
use Rattle.text.proofs.Digits.{decimal-short}
use Rattle.deckstate.specs.Lines.{place_text, verdict_text, verdict_room, line_text, line_room}

place_short : (place : ℕ) → length (place_text place) ≤ verdict_room
place_short place =
    by-test (λ t. length t ≤ verdict_room) (eqb place 0) _ _ (λ _. omega arith) (λ _. simp length-append (omega (arith, decimal-short place)))

verdict-short : (v : Verdict) → length (verdict_text v) ≤ verdict_room
verdict-short Works = omega arith
verdict-short (Fails place) = place_short place
verdict-short (Refused number) = simp length-append (omega (arith, decimal-short number))

pub line-short : (s : ℕ) (v : Verdict) → length (line_text s v) ≤ line_room
line-short s v = simp length-append (omega (arith, decimal-short s, verdict-short v))
