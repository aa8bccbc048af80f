-- How long a line can be: no number has more than 20 digits. Assumes nothing.
use mathlib.Core.Bool.{Bool, true, false}
use Prim.Native.Nat.{ℕ, ◌≤◌}
use native.Mathlib.Omega.{arith}
use lib.ListN.{length, length-append}
use Rattle.rules.specs.declared.Rating.{Rating}
use Rattle.rules.specs.declared.Rating.TheVariants.{Range, Refused}
use Rattle.text.proofs.Digits.{decimal-short}
use Rattle.text.specs.Decimal.{text}
use Rattle.advice.specs.declared.why.Why.{Why}
use Rattle.printing.proofs.Lined.{worded-short}
use Rattle.percent.specs.Percent.{range_text}
use Rattle.percent.proofs.Digits.{range-short}
use Rattle.decklist.specs.Lines.{end_text, end_room, rating_text, rating_room, line_text, line_room, head_text, head_room}

pub head-short : (n m : ℕ) → length (head_text n m) ≤ head_room
head-short n m = simp length-append (omega (arith, decimal-short n, decimal-short m))

end_short : (percent : Bool) (u low high : ℕ) → length (end_text percent u low high) ≤ end_room
end_short false u low high = omega arith
end_short true u low high =
    omega (arith, length-append (range_text u low high) (text "\n"), range-short u low high)

rating-short : (percent words : Bool) (u : ℕ) (why : ℕ → Why) (r : Rating) → length (rating_text percent words u why r) ≤ rating_room
rating-short percent words u why (Range low high) =
    simp length-append (omega (arith, decimal-short low, decimal-short high, end_short percent u low high))
rating-short percent words u why (Refused number) = omega (arith, worded-short words (why number) number)

pub line-short : (percent words : Bool) (u s : ℕ) (why : ℕ → Why) (r : Rating) → length (line_text percent words u s why r) ≤ line_room
line-short percent words u s why r = simp length-append (omega (arith, decimal-short s, rating-short percent words u why r))
