-- How long lines can be: no number has more than 20 digits and a minus, no refusal more words than there is room for, and no file more than 64 fans.
-- Assumes nothing.
use mathlib.Core.Bool.{Bool}
use mathlib.Core.List.{List}
use Prim.Native.Nat.{ℕ, ◌+◌, ◌≤◌}
use native.Mathlib.Nat.{mul-le-mul_left}
use native.Mathlib.Omega.{arith}
use lib.ListN.{length, length-append}
use Rattle.rules.specs.declared.Worth.{Worth}
use Rattle.rules.specs.declared.Worth.TheVariants.{Ends, Refused}
use Rattle.rules.specs.File.{most_fans, fans_in, worth_in}
use Rattle.text.proofs.Digits.{decimal-short, signed-short}
use Rattle.advice.specs.declared.why.Why.{Why}
use Rattle.deck.specs.declared.Head.{Head}
use Rattle.deck.specs.Outcome.{Headed}
use Rattle.deck.proofs.Sound.{sound}
use Rattle.printing.specs.Lines.{worded_room}
use Rattle.printing.proofs.Lined.{lines-short, worded-short}
use Rattle.deckworth.specs.Lines.{worth_text, line_text, line_room, why_in, fan_line, fans_text, fans_room}

worth-short : (words : Bool) (why : ℕ → Why) (w : Worth) → length (worth_text words why w) ≤ worded_room
worth-short words why (Ends lower upper) = simp length-append (omega (arith, signed-short lower, signed-short upper))
worth-short words why (Refused number) = worded-short words (why number) number

pub line-short : (words : Bool) (s fan : ℕ) (why : ℕ → Why) (w : Worth) → length (line_text words s fan why w) ≤ line_room
line-short words s fan why w = simp length-append (omega (arith, decimal-short s, decimal-short fan, worth-short words why w))

pub fan-short : (words : Bool) (bytes : List ℕ) (s i : ℕ) → length (fan_line words bytes s i) ≤ line_room
fan-short words bytes s i = line-short words (s + 1) (i + 1) (why_in bytes s i) (worth_in bytes s (i + 1))

pub fans-short : (words : Bool) {bytes : List ℕ} {head : Head} → Headed bytes head → (s : ℕ) → length (fans_text words bytes s) ≤ fans_room
fans-short words {bytes} headed s =
    let few : fans_in bytes ≤ most_fans = (sound bytes headed.accepted).most_fans in
    let all = mul-le-mul_left line_room few in
    omega (arith, lines-short line_room (fans_in bytes) (fan_line words bytes s) (fan-short words bytes s))
