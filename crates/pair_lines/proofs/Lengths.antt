-- How long a line can be: no number has more than 20 digits. Assumes nothing.
use mathlib.Core.Bool.{Bool, true, false, cond}
use mathlib.Core.List.{List}
use Prim.Native.Nat.{ℕ, ◌+◌, ◌≤◌}
use native.Mathlib.Omega.{arith}
use lib.Dec.{eqb}
use lib.ListN.{length, length-append}
use Rattle.rules.specs.Asked.{Asked, unit_in, size_of}
use Rattle.text.specs.Decimal.{text, decimal}
use Rattle.text.specs.Lines.{named, pair_text, pair_room}
use Rattle.text.proofs.Digits.{decimal-short}
use Rattle.percent.specs.Percent.{range_text}
use Rattle.percent.proofs.Digits.{range-short}
use Rattle.pairs.specs.Pairs.{low_with_both, high_with_both, first_place, second_place}
use Rattle.pair_lines.specs.Rated.{range_end, rated_text, rated_room}
use Rattle.pair_lines.specs.Line.{second_text, fans_text, one_text, best_text, two_text, two_room}

pub pair-short : (first : List ℕ) (a : ℕ) (second : List ℕ) (b : ℕ) → length (pair_text first a second b) ≤ pair_room first second
pair-short first a second b =
    omega (
      arith,
      length-append (named first a) (named second b),
      length-append first (decimal a),
      length-append second (decimal b),
      decimal-short a,
      decimal-short b,
    )

pub rated-short : (u low high : ℕ) → length (rated_text u low high) ≤ rated_room
rated-short u low high =
    omega (
      arith,
      length-append (pair_text (text " low ") low (text " high ") high) (range_end u low high),
      length-append (range_text u low high) (text "\n"),
      pair-short (text " low ") low (text " high ") high,
      range-short u low high,
    )

fans-short : (u s first second low high : ℕ) → length (fans_text u s first second low high) ≤ two_room
fans-short u s first second low high =
    omega (
      arith,
      length-append (pair_text (text "system ") s (text " fans ") first) (second_text u second low high),
      length-append (named (text " and ") second) (rated_text u low high),
      length-append (text " and ") (decimal second),
      decimal-short second,
      pair-short (text "system ") s (text " fans ") first,
      rated-short u low high,
    )

pub two-short : (s p : ℕ) (q : Asked) → length (two_text s p q) ≤ two_room
two-short s p q = go (eqb q.a q.b)
  where
    go : (b : Bool) → length (cond b (one_text s) (best_text s p q)) ≤ two_room
    go true = simp length-append (omega (arith, decimal-short s))
    go false =
        let i = first_place (low_with_both q p) (size_of q) in
        let j = second_place (low_with_both q p) (size_of q) in
        fans-short (unit_in q) s (q.a + i) (q.a + j) (low_with_both q p i j) (high_with_both q p i j)
