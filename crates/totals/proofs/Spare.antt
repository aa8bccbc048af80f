-- Totals keep their room: an answer adds 1 to one count and at most a unit to one sum, so after n answers no count has passed n. Products of a low and a unit, and
-- all sums, fit 64 bits. Assumes nothing.
use mathlib.Core.Path.{◌≡◌, refl, ◌∙◌}
use mathlib.Core.Bool.{Bool, true, false, cond, ◌||◌}
use mathlib.Core.List.{List}
use Prim.Native.Nat.{ℕ, zero, suc, ◌+◌, ◌*◌, ◌-◌, ◌^◌, ◌≤◌, ◌<◌}
use native.Mathlib.Nat.{mul-le-mul, le_of_mul-le-mul_right, le_trans, one-le-pow}
use native.Mathlib.Decide.{ℕ_discrete}
use native.Mathlib.Omega.{arith}
use lib.Dec.{ltb, eqb}
use lib.ListN.{get_or, length-set}
use lib.Seq.{get_or-set_same, get_or-set_other}
use Rattle.rules.specs.declared.Rating.{Rating}
use Rattle.rules.specs.declared.Rating.TheVariants.{Range, Refused}
use Rattle.rules.specs.Below.{within}
use Rattle.rules.specs.State.{S, decimal, unit_of}
use Rattle.rules.specs.Asked.{Asked, parts_of}
use Rattle.rules.specs.Answer.{figures_of}
use Rattle.rules.specs.File.{version_in, system_in, system_of, answer_in}
use Rattle.rules.proofs.Units.{unit-some, unit-most}
use Rattle.rules.proofs.Tests.{by-test}
use Rattle.rules.proofs.EachKind.{within-true}
use Rattle.rules.proofs.Accepted.{figures-third}
use Rattle.rules.specs.Within.{WithinUnit}
use Rattle.rules.proofs.Within.{figures-within}
use Rattle.totals.specs.declared.tally.Refusals.{Refusals}
use Rattle.totals.specs.declared.tally.Lowest.{Lowest}
use Rattle.totals.specs.declared.tally.Widths.{Widths}
use Rattle.totals.specs.declared.tally.Tally.{Tally}
use Rattle.totals.specs.declared.Totals.{Totals}
use Rattle.rules.specs.Refusal.{last_kind}
use Rattle.totals.specs.Plus.{one_if, refusals_plus, lowest_plus, widths_plus, tally_plus, no_tally, system_plus, systems_plus}
use Rattle.totals.specs.Room.{RoomRefusals, RoomLowest, RoomWidths, RoomTally, Room, Fair}

pub product-fits : (a b : ℕ) → a ≤ S → b ≤ S → a * b < 2 ^ 64
product-fits a b h l = omega (arith, mul-le-mul h l)

-- an answer's ends stand in their order: E lies between them
pub figures-fair : (q : Asked) (table : List ℕ) → Fair (figures_of q table)
figures-fair q table = go (figures_of q table) refl (figures-within q table)
  where
    go : (r : Rating) → figures_of q table ≡ r → WithinUnit r → Fair r
    go (Range low high) e h =
        let third = figures-third q table low high e in
        (le_of_mul-le-mul_right (le_trans third.above_low third.below_high) (one-le-pow (parts_of q - 1) (unit_of q.version) (unit-some q.version)), h.1)
    go (Refused number) e h = tt

pub answer-fair : (bytes : List ℕ) (s : ℕ) → Fair (answer_in bytes s)
unfolding system_of
answer-fair bytes s = figures-fair _ _

-- one more where a test holds
one-most : (b : Bool) → one_if b ≤ 1
one-most true = omega arith
one-most false = omega arith

picked-most : (b : Bool) (x : ℕ) → cond b x 0 ≤ x
picked-most true x = omega arith
picked-most false x = omega arith

-- fewer answers
pub room-more : (m n : ℕ) → m ≤ n → (t : Tally) → RoomTally m t → RoomTally n t
room-more m n h t r = record {
  answered = omega (arith, r.answered);
  refused = record {
    three = omega (arith, r.refused.three);
    four = omega (arith, r.refused.four);
    five = omega (arith, r.refused.five);
    six = omega (arith, r.refused.six);
  };
  lowest = r.lowest;
  widths = record { binary = omega (arith, r.widths.binary); decimal = omega (arith, r.widths.decimal) };
}

pub totals-more : (m n : ℕ) → m ≤ n → (t : Totals) → Room m t → Room n t
totals-more m n h t r = record { other = omega (arith, r.other); eight = r.eight; kinds = λ k. room-more m n h _ (r.kinds k) }

-- one answer more
refusals-room : (n : ℕ) (t : Refusals) (number : ℕ) → RoomRefusals n t → RoomRefusals (suc n) (refusals_plus t number)
refusals-room n t number r = record {
  three = omega (arith, r.three, one-most (eqb number 3));
  four = omega (arith, r.four, one-most (eqb number 4));
  five = omega (arith, r.five, one-most (eqb number 5));
  six = omega (arith, r.six, one-most (eqb number 6));
}

lowest-room : (t next : Lowest) → RoomLowest t → RoomLowest next → RoomLowest (lowest_plus t next)
lowest-room t next r m = by-test RoomLowest (eqb t.unit 0 || ltb (next.low * t.unit) (t.low * next.unit)) next t (λ e. m) (λ e. r)

widths-room : (n : ℕ) (t : Widths) (unit width : ℕ) → width ≤ S → RoomWidths n t → RoomWidths (suc n) (widths_plus t unit width)
widths-room n t unit width h r = record {
  binary = omega (arith, r.binary, picked-most (eqb unit S) width);
  decimal = omega (arith, r.decimal, picked-most (eqb unit decimal) width);
}

tally-room : (n : ℕ) (t : Tally) (deck system unit : ℕ) (answer : Rating) → unit ≤ S → Fair answer → RoomTally n t
    → RoomTally (suc n) (tally_plus t deck system unit answer)
unfolding tally_plus
tally-room n t deck system unit (Range low high) h fair r =
    let more = room-more n (suc n) (omega arith) t r in
    record {
      answered = omega (arith, r.answered);
      refused = more.refused;
      lowest = lowest-room t.lowest _ r.lowest (record { low = omega (arith, fair); unit = h });
      widths = widths-room n t.widths unit (high - low) (omega (arith, fair)) r.widths;
    }
tally-room n t deck system unit (Refused number) h fair r =
    let more = room-more n (suc n) (omega arith) t r in
    record { answered = more.answered; refused = refusals-room n t.refused number r.refused; lowest = r.lowest; widths = more.widths }

system-room : (n : ℕ) (t : Totals) (system unit kind : ℕ) (answer : Rating) → unit ≤ S → Fair answer → Room n t → Room (suc n) (system_plus t system unit kind answer)
unfolding system_plus
system-room n t system unit kind answer h fair r =
    by-test (Room (suc n)) (within 1 kind last_kind) _ _
    (λ e.
    let k = kind - 1 in
    let i = within-true 1 kind last_kind e in
    let more = totals-more n (suc n) (omega arith) t r in
    record {
      other = more.other;
      eight = length-set t.kinds k _ ∙ r.eight;
      kinds = λ j. elim (ℕ_discrete j k) [
        | yes same ↦ rw (same, get_or-set_same t.kinds k (tally_plus (get_or t.kinds k no_tally) t.decks system unit answer) no_tally (omega (arith, r.eight)))
            (tally-room n (get_or t.kinds k no_tally) t.decks system unit answer h fair (r.kinds k))
        | no other ↦ rw (get_or-set_other t.kinds k j (tally_plus (get_or t.kinds k no_tally) t.decks system unit answer) no_tally other) (more.kinds j)
      ];
    })
    (λ e. let more = totals-more n (suc n) (omega arith) t r in record { other = omega (arith, r.other); eight = r.eight; kinds = more.kinds })

-- a deck's answers, and a file's
pub systems-room : (n : ℕ) (t : Totals) (bytes : List ℕ) (m : ℕ) → Room n t → Room (n + m) (systems_plus t bytes m)
unfolding systems_plus
systems-room n t bytes zero r = totals-more n (n + 0) (omega arith) t r
systems-room n t bytes (suc m) r =
    let more =
    system-room (n + m) (systems_plus t bytes m) (suc m) (unit_of (version_in bytes)) (system_in bytes m).rule.kind (answer_in bytes m) (unit-most (version_in bytes)) (answer-fair bytes m)
    (systems-room n t bytes m r) in
    let e : suc (n + m) ≡ n + suc m = omega arith in
    rw e at more
