-- How long the words of a rule and the lines of a deck can be. Assumes nothing.
use mathlib.Core.Bool.{Bool, true, false, cond, ◌&&◌}
use mathlib.Core.List.{List, [], ◌∷◌}
use Prim.Native.Nat.{ℕ, zero, suc, ◌≤◌}
use native.Mathlib.Omega.{arith}
use lib.Dec.{eqb}
use lib.ListN.{length, get_or, length-append}
use Rattle.text.specs.Decimal.{text}
use Rattle.text.specs.Lines.{named, named_room, pair_text}
use Rattle.text.proofs.Digits.{decimal-short}
use Rattle.wording.specs.Numbers.{one_text, one_room, two_text, two_room, some_text}
use Rattle.wording.specs.Rule.{by_numbers, alone, rule_text, rule_room}
use Rattle.wording.specs.Lines.{fan_text, fan_room, stretch_text, stretch_room, system_text, system_room}

pub one-short : (before : List ℕ) (k : ℕ) (behind : List ℕ) → length (one_text before k behind) ≤ one_room before behind
one-short before k behind = simp length-append (omega (arith, decimal-short k))

two-short : (before : List ℕ) (a : ℕ) (between : List ℕ) (b : ℕ) (behind : List ℕ) → length (two_text before a between b behind) ≤ two_room before between behind
two-short before a between b behind = simp length-append (omega (arith, decimal-short a, decimal-short b))

pub some-short : (name : List ℕ) (n : ℕ) → length (some_text name n) ≤ named_room name
some-short name n = go (eqb n 0)
  where
    go : (b : Bool) → length (cond b [] (named name n)) ≤ named_room name
    go true = omega arith
    go false = simp length-append (omega (arith, decimal-short n))

module _ (kind first second : ℕ) where
  numbers-short : length (by_numbers kind first second) ≤ rule_room
  numbers-short = simp length-append (omega (arith, decimal-short kind, decimal-short first, decimal-short second))

  alone-short : (before behind : List ℕ) → one_room before behind ≤ rule_room → length (alone kind first second (one_text before first behind)) ≤ rule_room
  alone-short before behind h = go (eqb second 0)
    where
      go : (b : Bool) → length (cond b (one_text before first behind) (by_numbers kind first second)) ≤ rule_room
      go true = omega (arith, one-short before first behind)
      go false = numbers-short

-- of a table's rows, that each fits
data Short : List (List ℕ) → Type 0 where
  none : Short []
  more : {row : List ℕ} {rows : List (List ℕ)} → length row ≤ rule_room → Short rows → Short (row ∷ rows)

row-short : (k : ℕ) (other : List ℕ) {rows : List (List ℕ)} → length other ≤ rule_room → Short rows → length (get_or rows k other) ≤ rule_room
row-short k other h none = h
row-short zero other h (more r rows) = r
row-short (suc k) other h (more r rows) = row-short k other h rows

pub rule-short : (kind first second : ℕ) → length (rule_text kind first second) ≤ rule_room
unfolding rule_text
rule-short kind first second =
    let numbers = numbers-short kind first second in
    let single = alone-short kind first second in
    row-short kind (by_numbers kind first second) numbers
    (more numbers
    (more (single (text "fails at ") (text " dead") (omega arith))
    (more (single (text "fails at weight ") [] (omega arith))
    (more (omega (arith, two-short (text "fails from ") first (text " to ") second (text " dead")))
    (more (single (text "fails at ") (text " in a row") (omega arith))
    (more (single (text "fails at ") (text " in a row round") (omega arith))
    (more (omega (arith, two-short (text "fails at ") first (text " in ") second []))
    (more (omega (arith, two-short (text "fails at ") first (text " in ") second (text " round")))
    (more (omega (arith, two-short (text "needs ") first (text " of any ") second []))
    none)))))))))

pub fan-short : (parts weight board : ℕ) → length (fan_text parts weight board) ≤ fan_room
unfolding fan_text
fan-short parts weight board =
    simp length-append (omega (arith, decimal-short parts, some-short (text " weight ") weight, some-short (text " on ") board))

pub stretch-short : (n a b : ℕ) → length (stretch_text n a b) ≤ stretch_room
stretch-short n a b = go (eqb a 1 && eqb b n)
  where
    go : (w : Bool) → length (cond w [] (pair_text (text " from ") a (text " to ") b)) ≤ stretch_room
    go true = omega arith
    go false = simp length-append (omega (arith, decimal-short a, decimal-short b))

pub system-short : (n kind first second a b : ℕ) → length (system_text n kind first second a b) ≤ system_room
unfolding system_text
system-short n kind first second a b =
    simp length-append (omega (arith, rule-short kind first second, stretch-short n a b))
