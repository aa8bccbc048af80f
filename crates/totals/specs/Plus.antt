-- How the totals grow by one answer, and by one file: the steps that the program takes. That they lead to the totals of request 13 is a theorem (proofs/Growing).
use Rattle.std.specs.Prelude.{Bool, cond, ◌||◌, List, [], ◌∷◌, ℕ, zero, suc, ◌+◌, ◌*◌, ◌-◌, ltb, eqb, get_or, set}
use Rattle.rules.specs.declared.Rating.{Rating}
use Rattle.rules.specs.declared.Rating.TheVariants.{Range, Refused}
use Rattle.rules.specs.Below.{within}
use Rattle.rules.specs.State.{S, decimal, unit_of}
use Rattle.rules.specs.Answer.{unless}
use Rattle.rules.specs.File.{version_in, count_in, system_in, file_refusal, answer_in}
use Rattle.totals.specs.declared.tally.Refusals.{Refusals}
use Rattle.totals.specs.declared.tally.Lowest.{Lowest}
use Rattle.totals.specs.declared.tally.Widths.{Widths}
use Rattle.totals.specs.declared.tally.Tally.{Tally}
use Rattle.totals.specs.declared.Totals.{Totals}
use Rattle.rules.specs.Refusal.{last_kind}

-- one more where a test holds
abbrev pub one_if : Bool → ℕ
one_if b = cond b 1 0

abbrev pub refusals_plus : Refusals → (number : ℕ) → Refusals
refusals_plus t number = record {
  three = t.three + one_if (eqb number 3);
  four = t.four + one_if (eqb number 4);
  five = t.five + one_if (eqb number 5);
  six = t.six + one_if (eqb number 6);
}

-- what was lowest stays on a tie; where none was, its unit is 0
abbrev pub lowest_plus : (t next : Lowest) → Lowest
lowest_plus t next = cond (eqb t.unit 0 || ltb (next.low * t.unit) (t.low * next.unit)) next t

abbrev pub widths_plus : Widths → (unit width : ℕ) → Widths
widths_plus t unit width = record { binary = t.binary + cond (eqb unit S) width 0; decimal = t.decimal + cond (eqb unit decimal) width 0 }

unfoldable pub tally_plus : Tally → (deck system unit : ℕ) → Rating → Tally
tally_plus t deck system unit (Range low high) = record {
  answered = t.answered + 1;
  refused = t.refused;
  lowest = lowest_plus t.lowest (record { low = low; unit = unit; deck = deck; system = system });
  widths = widths_plus t.widths unit (high - low);
}
tally_plus t deck system unit (Refused number) = record {
  answered = t.answered;
  refused = refusals_plus t.refused number;
  lowest = t.lowest;
  widths = t.widths;
}

-- a tally of nothing
abbrev pub no_tally : Tally
no_tally = record {
  answered = 0;
  refused = record { three = 0; four = 0; five = 0; six = 0 };
  lowest = record { low = 0; unit = 0; deck = 0; system = 0 };
  widths = record { binary = 0; decimal = 0 };
}

-- the answer of a system of the deck that was read last
unfoldable pub system_plus : Totals → (system unit kind : ℕ) → Rating → Totals
system_plus t system unit kind answer =
    cond (within 1 kind last_kind)
    (record {
      decks = t.decks;
      refused = t.refused;
      number = t.number;
      other = t.other;
      kinds = set t.kinds (kind - 1) (tally_plus (get_or t.kinds (kind - 1) no_tally) t.decks system unit answer);
    })
    (record { decks = t.decks; refused = t.refused; number = t.number; other = t.other + 1; kinds = t.kinds })

-- its first m systems
unfoldable pub systems_plus : Totals → (bytes : List ℕ) (m : ℕ) → Totals
systems_plus t bytes zero = t
systems_plus t bytes (suc m) =
    system_plus (systems_plus t bytes m) (suc m) (unit_of (version_in bytes)) (system_in bytes m).rule.kind (answer_in bytes m)

abbrev pub deck_plus : Totals → Totals
deck_plus t = record { decks = t.decks + 1; refused = t.refused; number = t.number; other = t.other; kinds = t.kinds }

abbrev pub refusal_plus : Totals → (number : ℕ) → Totals
refusal_plus t number = record { decks = t.decks; refused = t.refused + 1; number = number; other = t.other; kinds = t.kinds }

-- a file
unfoldable pub file_plus : Totals → (bytes : List ℕ) → Totals
file_plus t bytes = unless (file_refusal bytes) (refusal_plus t) (systems_plus (deck_plus t) bytes (count_in bytes))

-- files one after another
unfoldable pub files_plus : Totals → (files : List (List ℕ)) → Totals
files_plus t [] = t
files_plus t (file ∷ files) = files_plus (file_plus t file) files
