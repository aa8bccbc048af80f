-- How long a fault's line can be. Assumes nothing.
use mathlib.Core.Path.{◌≡◌, refl}
use mathlib.Core.Bool.{Bool, true, false, cond}
use mathlib.Core.List.{List, [], ◌++◌, map}
use Prim.Native.Nat.{ℕ, ◌+◌, ◌-◌, ◌≤◌}
use native.Mathlib.Omega.{arith}
use lib.Dec.{eqb, ltb}
use lib.ListN.{length, take, length-append, length-map, length-take}
use borrow.Author.Tests.{ltb-false}
use Rattle.text.specs.Decimal.{text, decimal}
use Rattle.text.proofs.Digits.{decimal-short}
use Rattle.grammar.specs.Numbers.{off_grid}
use Rattle.grammar.specs.Text.{Fault}
use Rattle.faults.specs.Wanted.{nearest, numbers_for, numbers_room, words_for, wanted_text, wanted_room}
use Rattle.faults.specs.Told.{plain, most_shown, shown, shown_room, spot_text, spot_room, fault_text, fault_room}
use Rattle.faults.proofs.Tables.{words-short}

numbers-short : (wanted named : ℕ) → length (numbers_for wanted named) ≤ numbers_room
numbers-short wanted named = go (eqb wanted 129) (eqb wanted 136)
  where
    go : (a b : Bool) → length (cond a (nearest named) (cond b (decimal named) [])) ≤ numbers_room
    go true b = simp length-append (omega (arith, decimal-short (named - off_grid), decimal-short (named - off_grid + 1)))
    go false true = omega (arith, decimal-short named)
    go false false = omega arith

pub wanted-short : (wanted named : ℕ) → length (wanted_text wanted named) ≤ wanted_room
unfolding wanted_text
wanted-short wanted named =
    omega (arith, length-append (words_for wanted) (numbers_for wanted named), words-short wanted, numbers-short wanted named)

pub shown-short : (word : List ℕ) → length (shown word) ≤ shown_room
unfolding shown
shown-short word = go (eqb (length word) 0) (ltb most_shown (length word)) refl
  where
    go : (a b : Bool) → ltb most_shown (length word) ≡ b
        → length (cond a (text "the end") (cond b (map plain (take most_shown word) ++ text "..") (map plain word))) ≤ shown_room
    go true b e = omega arith
    go false true e = simp (length-append, length-map, length-take) (omega arith)
    go false false e = simp length-map (omega (arith, ltb-false most_shown (length word) e))

pub spot-short : (line : ℕ) (word : List ℕ) → length (spot_text line word) ≤ spot_room
spot-short line word = simp length-append (omega (arith, decimal-short line, shown-short word))

pub fault-short : (f : Fault) → length (fault_text f) ≤ fault_room
unfolding fault_text
fault-short f =
    let spot = spot_text f.line f.word in
    let wanted = wanted_text f.wanted f.named in
    let first = length-append spot (text ": wanted ") in
    let second = length-append (spot ++ text ": wanted ") wanted in
    let third = length-append (spot ++ text ": wanted " ++ wanted) (text "\n") in
    omega (arith, spot-short f.line f.word, wanted-short f.wanted f.named)
