-- How long the lines can be: no number has more than 20 digits, and there are eight kinds. Assumes nothing.
use mathlib.Core.List.{List, ◌++◌}
use Prim.Native.Nat.{ℕ, zero, suc, ◌+◌, ◌*◌, ◌≤◌}
use native.Mathlib.Omega.{arith}
use lib.ListN.{length, get_or, length-append}
use Rattle.rules.specs.State.{S, decimal}
use Rattle.text.specs.Added.{Added}
use Rattle.text.specs.Lines.{pair_text, pair_room}
use Rattle.text.proofs.Digits.{decimal-short}
use Rattle.totals.specs.declared.tally.Refusals.{Refusals}
use Rattle.totals.specs.declared.tally.Lowest.{Lowest}
use Rattle.totals.specs.declared.tally.Widths.{Widths}
use Rattle.totals.specs.declared.tally.Tally.{Tally}
use Rattle.totals.specs.Plus.{no_tally}
use Rattle.season_report.specs.Lines.{one_text, one_room, two_text, two_room, head_text, head_room, answers_text, answers_room, lowest_text, lowest_room, widths_text, widths_room, kind_text, kind_room, kinds_text}

-- how far a text of at most so many bytes reaches
pub reach : {words out after : List ℕ} {at end : ℕ} (room : ℕ) → length words ≤ room → Added words out at after end → end ≤ at + room
reach room short added = omega (arith, added.ends)

pub one-short : (name : List ℕ) (n : ℕ) → length (one_text name n) ≤ one_room name
one-short name n = simp length-append (omega (arith, decimal-short n))

pub pair-short : (first : List ℕ) (a : ℕ) (second : List ℕ) (b : ℕ) → length (pair_text first a second b) ≤ pair_room first second
pair-short first a second b = simp length-append (omega (arith, decimal-short a, decimal-short b))

pub two-short : (first : List ℕ) (a : ℕ) (second : List ℕ) (b : ℕ) → length (two_text first a second b) ≤ two_room first second
two-short first a second b = simp length-append (omega (arith, decimal-short a, decimal-short b))

pub head-short : (decks refused number waiting : ℕ) → length (head_text decks refused number waiting) ≤ head_room
head-short decks refused number waiting =
    simp length-append (omega (arith, decimal-short decks, decimal-short refused, decimal-short number, decimal-short waiting))

pub answers-short : (kind answered : ℕ) (r : Refusals) → length (answers_text kind answered r) ≤ answers_room
answers-short kind answered r =
    simp length-append
    (omega (arith, decimal-short kind, decimal-short answered, decimal-short r.three, decimal-short r.four, decimal-short r.five, decimal-short r.six))

pub lowest-short : (kind : ℕ) (l : Lowest) → length (lowest_text kind l) ≤ lowest_room
lowest-short kind l =
    simp length-append (omega (arith, decimal-short kind, decimal-short l.low, decimal-short l.unit, decimal-short l.deck, decimal-short l.system))

pub widths-short : (kind : ℕ) (w : Widths) → length (widths_text kind w) ≤ widths_room
widths-short kind w =
    simp length-append (omega (arith, decimal-short kind, decimal-short w.binary, decimal-short S, decimal-short w.decimal, decimal-short decimal))

-- three texts, one after another
three-short : (a b c : List ℕ) {x y z : ℕ} → length a ≤ x → length b ≤ y → length c ≤ z → length (a ++ b ++ c) ≤ x + y + z
three-short a b c h k l = simp length-append (omega arith)

kind-short : (kind : ℕ) (t : Tally) → length (kind_text kind t) ≤ kind_room
kind-short kind t =
    three-short (answers_text kind t.answered t.refused) (lowest_text kind t.lowest) (widths_text kind t.widths) (answers-short kind t.answered t.refused) (lowest-short kind t.lowest) (widths-short kind t.widths)

pub kinds-short : (m : ℕ) (kinds : List Tally) → length (kinds_text m kinds) ≤ kind_room * m
unfolding kinds_text
kinds-short zero kinds = omega arith
kinds-short (suc m) kinds =
    more-short (kinds_text m kinds) (kind_text (suc m) (get_or kinds m no_tally)) (kinds-short m kinds) (kind-short (suc m) (get_or kinds m no_tally))
  where
    more-short : (a b : List ℕ) → length a ≤ kind_room * m → length b ≤ kind_room → length (a ++ b) ≤ kind_room * suc m
    more-short a b h k = omega (arith, length-append a b)
