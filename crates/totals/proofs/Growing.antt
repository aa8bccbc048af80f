-- The steps lead to the totals of request 13: one answer more, one deck more, one file more. Every count is of what is chosen of the single answers, so an answer at
-- their end adds to the counts whose test it passes and to no other. Assumes nothing.
use mathlib.Core.Path.{◌≡◌, refl, sym, ap, ◌∙◌}
use mathlib.Core.Bool.{Bool, true, false, cond, not, ◌&&◌, true≢false}
use mathlib.Core.List.{List, [], ◌∷◌, ◌++◌, append_assoc, append-nil}
use Prim.Native.Nat.{ℕ, zero, suc, ◌+◌, ◌-◌, ◌<◌}
use native.Mathlib.Decide.{ℕ_discrete}
use native.Mathlib.Omega.{arith}
use lib.Dec.{eqb}
use lib.ListN.{length, get_or, set, length-append, length-set}
use lib.Seq.{get_or-set_same, get_or-set_other}
use borrow.Author.Tests.{eq-eqb, ne_eqb, eqb-true, eqb-false, le-leb}
use Rattle.rules.specs.declared.Rating.{Rating}
use Rattle.rules.specs.declared.Rating.TheVariants.{Range, Refused}
use Rattle.rules.specs.Below.{within, list_below}
use Rattle.rules.specs.State.{S, decimal, unit_of}
use Rattle.rules.specs.File.{count_in, file_refusal}
use Rattle.rules.proofs.Lists.{below_length, below_get, below-is}
use Rattle.rules.proofs.EachKind.{within-true}
use Rattle.rules.proofs.Unless.{unless-some, unless-none}
use Rattle.totals.specs.declared.Totals.{Totals}
use Rattle.totals.specs.Season.{Single, of_first, single_in, singles_in, singles_from, is_refused, decks_of, refused_of, singles_of, is_range, refused_by, width_in, unit_in}
use Rattle.rules.specs.Refusal.{last_kind}
use Rattle.totals.specs.Season.{answered_of, refused_as, lowest_of, widths_of, tally_of, other_of, kinds_of, totals_of}
use Rattle.totals.specs.Plus.{one_if, widths_plus, tally_plus, no_tally, system_plus, systems_plus, file_plus}
use Rattle.totals.proofs.Chosen.{chosen-in, chosen-out, count-plus, total-plus}
use Rattle.totals.proofs.Least.{lowest-plus}
use Rattle.totals.proofs.Sorted.{Sorted, is-answered, by_three, by-four, by-five, by-six, other-refused, sorted}

-- the widths
widths-plus : (xs : List Single) (x : Single) → widths_plus (widths_of xs) (unit_in x) (width_in x.answer) ≡ widths_of (xs ++ x ∷ [])
widths-plus xs x =
    let width : Single → ℕ = λ y. width_in y.answer in
    let binary = total-plus (λ y. eqb (unit_in y) S) width xs x (eqb (unit_in x) S) refl in
    let parts = total-plus (λ y. eqb (unit_in y) decimal) width xs x (eqb (unit_in x) decimal) refl in
    λ i. record { binary = binary i; decimal = parts i }

-- the totals of the answer's own kind
module _ (kind : ℕ) (xs : List Single) where
  tally-own : (deck system version : ℕ) (answer : Rating)
      → tally_plus (tally_of kind xs) deck system (unit_of version) answer
      ≡ tally_of kind (xs ++ record { deck = deck; system = system; version = version; kind = kind; answer = answer } ∷ [])
  unfolding tally_plus
  tally-own deck system version (Range low high) =
      let x : Single = record { deck = deck; system = system; version = version; kind = kind; answer = Range low high } in
      let own = eq-eqb kind kind refl in
      let those = answered_of kind xs in
      let more : answered_of kind (xs ++ x ∷ []) ≡ those ++ x ∷ [] = chosen-in (λ y. eqb y.kind kind && is_range y.answer) xs x (rw own) in
      let same : (number : ℕ) → refused_as kind number xs ≡ refused_as kind number (xs ++ x ∷ []) =
      λ number. sym (ap length (chosen-out (λ y. eqb y.kind kind && refused_by number y.answer) xs x (rw own))) in
      let count : length those + 1 ≡ length (answered_of kind (xs ++ x ∷ [])) = sym (ap length more ∙ length-append those (x ∷ [])) in
      let lowest = lowest-plus those x ∙ ap lowest_of (sym more) in
      let widths = widths-plus those x ∙ ap widths_of (sym more) in
      λ i. record {
        answered = count i;
        refused = record { three = same 3 i; four = same 4 i; five = same 5 i; six = same 6 i };
        lowest = lowest i;
        widths = widths i;
      }
  tally-own deck system version (Refused number) =
      let x : Single = record { deck = deck; system = system; version = version; kind = kind; answer = Refused number } in
      let own = eq-eqb kind kind refl in
      let those : answered_of kind xs ≡ answered_of kind (xs ++ x ∷ []) = sym (chosen-out (λ y. eqb y.kind kind && is_range y.answer) xs x (rw own)) in
      let by : (r : ℕ) → refused_as kind r xs + one_if (eqb number r) ≡ refused_as kind r (xs ++ x ∷ []) =
      λ r. count-plus (λ y. eqb y.kind kind && refused_by r y.answer) xs x (eqb number r) (rw own) in
      λ i. record {
        answered = length (those i);
        refused = record { three = by 3 i; four = by 4 i; five = by 5 i; six = by 6 i };
        lowest = lowest_of (those i);
        widths = widths_of (those i);
      }

  -- another kind's stay
  tally-other : (x : Single) → (x.kind ≡ kind → ⊥) → tally_of kind xs ≡ tally_of kind (xs ++ x ∷ [])
  tally-other x other =
      let not_own = ne_eqb x.kind kind other in
      let those : answered_of kind xs ≡ answered_of kind (xs ++ x ∷ []) = sym (chosen-out (λ y. eqb y.kind kind && is_range y.answer) xs x (rw not_own)) in
      let same : (number : ℕ) → refused_as kind number xs ≡ refused_as kind number (xs ++ x ∷ []) =
      λ number. sym (ap length (chosen-out (λ y. eqb y.kind kind && refused_by number y.answer) xs x (rw not_own))) in
      λ i. record {
        answered = length (those i);
        refused = record { three = same 3 i; four = same 4 i; five = same 5 i; six = same 6 i };
        lowest = lowest_of (those i);
        widths = widths_of (those i);
      }

-- each kind's
kinds-own : (xs : List Single) (x : Single) (k : ℕ) → k < last_kind → x.kind ≡ suc k
    → set (kinds_of xs) k (tally_plus (get_or (kinds_of xs) k no_tally) x.deck x.system (unit_in x) x.answer) ≡ kinds_of (xs ++ x ∷ [])
kinds-own xs x k l own =
    let old = kinds_of xs in
    let next = tally_plus (get_or old k no_tally) x.deck x.system (unit_in x) x.answer in
    let many : length old ≡ last_kind = below_length last_kind _ in
    let here : next ≡ tally_of (suc k) (xs ++ x ∷ []) =
    ap (λ t. tally_plus t x.deck x.system (unit_in x) x.answer) (below_get last_kind (λ j. tally_of (suc j) xs) no_tally k l ∙ ap (λ n. tally_of n xs) (sym own))
    ∙ tally-own x.kind xs x.deck x.system x.version x.answer
    ∙ ap (λ n. tally_of n (xs ++ x ∷ [])) own in
    sym
    (below-is (set old k next) no_tally last_kind (λ j. tally_of (suc j) (xs ++ x ∷ [])) (length-set old k next ∙ many)
    (λ j h.
    elim (ℕ_discrete j k) [
      | yes same ↦ rw same (sym (get_or-set_same old k next no_tally (omega (arith, many)) ∙ here))
      | no other ↦
          sym
          (get_or-set_other old k j next no_tally other
          ∙ below_get last_kind (λ i. tally_of (suc i) xs) no_tally j h
          ∙ tally-other (suc j) xs x (λ e. other (omega (arith, own, e))))
    ]))

kinds-other : (xs : List Single) (x : Single) → (within 1 x.kind last_kind ≡ false) → kinds_of xs ≡ kinds_of (xs ++ x ∷ [])
kinds-other xs x out =
    sym
    (below-is (kinds_of xs) no_tally last_kind (λ j. tally_of (suc j) (xs ++ x ∷ [])) (below_length last_kind _)
    (λ j h.
    sym
    (below_get last_kind (λ i. tally_of (suc i) xs) no_tally j h
    ∙ tally-other (suc j) xs x (λ e. outside j h (rw e at out)))))
  where
    outside : (j : ℕ) → j < last_kind → within 1 (suc j) last_kind ≡ false → ⊥
    outside j h e = true≢false (sym (rw (le-leb 1 (suc j) (omega arith), le-leb (suc j) last_kind (omega arith))) ∙ e)

-- all totals, over single answers
abbrev over : (decks refused number : ℕ) → List Single → Totals
over decks refused number xs = record { decks = decks; refused = refused; number = number; other = other_of xs; kinds = kinds_of xs }

-- an answer of a kind from 1 to 8 is sorted, and any other is refused 1
pub record Fits (x : Single) : Type 0 where
  pub inside : within 1 x.kind last_kind ≡ true → Sorted x.answer
  pub outside : within 1 x.kind last_kind ≡ false → x.answer ≡ Refused 1

-- what is sorted is not refused 1
pub not-one : (answer : Rating) → Sorted answer → refused_by 1 answer ≡ false
not-one answer (is-answered low high) = refl
not-one answer by_three = refl
not-one answer by-four = refl
not-one answer by-five = refl
not-one answer by-six = refl

pub fits_in : (deck : ℕ) (bytes : List ℕ) → file_refusal bytes ≡ 0 → (s : ℕ) → Fits (single_in deck bytes s)
fits_in deck bytes accepted s = record { inside = sorted bytes accepted s; outside = other-refused bytes accepted s }

module _ (decks refused number : ℕ) where
  -- one answer more of the deck that was read last
  system-plus : (xs : List Single) (x : Single) → x.deck ≡ decks → Fits x
      → system_plus (over decks refused number xs) x.system (unit_in x) x.kind x.answer ≡ over decks refused number (xs ++ x ∷ [])
  unfolding system_plus
  system-plus xs x at fits = go (within 1 x.kind last_kind) refl
    where
      go : (b : Bool) → within 1 x.kind last_kind ≡ b
          → cond b
          (record {
            decks = decks;
            refused = refused;
            number = number;
            other = other_of xs;
            kinds = set (kinds_of xs) (x.kind - 1) (tally_plus (get_or (kinds_of xs) (x.kind - 1) no_tally) decks x.system (unit_in x) x.answer);
          })
          (record { decks = decks; refused = refused; number = number; other = other_of xs + 1; kinds = kinds_of xs })
          ≡ over decks refused number (xs ++ x ∷ [])
      go true e =
          let i = within-true 1 x.kind last_kind e in
          let k = x.kind - 1 in
          let other = sym (ap length (chosen-out (λ y. refused_by 1 y.answer) xs x (not-one x.answer (fits.inside e)))) in
          let kinds =
          ap (λ d. set (kinds_of xs) k (tally_plus (get_or (kinds_of xs) k no_tally) d x.system (unit_in x) x.answer)) (sym at)
          ∙ kinds-own xs x k (omega (arith, i)) (omega (arith, i)) in
          λ j. record { decks = decks; refused = refused; number = number; other = other j; kinds = kinds j }
      go false e =
          let other = count-plus (λ y. refused_by 1 y.answer) xs x true (ap (refused_by 1) (fits.outside e)) in
          let kinds = kinds-other xs x e in
          λ j. record { decks = decks; refused = refused; number = number; other = other j; kinds = kinds j }

  -- a deck's
  module _ (bytes : List ℕ) (accepted : file_refusal bytes ≡ 0) where
    systems-plus : (xs : List Single) (m : ℕ) → systems_plus (over decks refused number xs) bytes m ≡ over decks refused number (xs ++ list_below m (single_in decks bytes))
    unfolding systems_plus list_below
    systems-plus xs zero = ap (over decks refused number) (sym (append-nil xs))
    systems-plus xs (suc m) =
        let x = single_in decks bytes m in
        let before = list_below m (single_in decks bytes) in
        ap (λ t. system_plus t x.system (unit_in x) x.kind x.answer) (systems-plus xs m)
        ∙ system-plus (xs ++ before) x refl (fits_in decks bytes accepted m)
        ∙ ap (over decks refused number) (append_assoc xs before (x ∷ []))

-- a deck more at the end of those read
singles-more : (deck : ℕ) (files : List (List ℕ)) (file : List ℕ) → singles_from deck (files ++ file ∷ []) ≡ singles_from deck files ++ singles_in (length files + deck) file
unfolding singles_from
singles-more deck [] file = let e : deck ≡ 0 + deck = omega arith in append-nil (singles_in deck file) ∙ ap (λ d. singles_in d file) e
singles-more deck (first ∷ files) file =
    let e : length files + suc deck ≡ suc (length files) + deck = omega arith in
    ap (λ ys. singles_in deck first ++ ys) (singles-more (suc deck) files file ∙ ap (λ d. singles_from (suc deck) files ++ singles_in d file) e)
    ∙ sym (append_assoc (singles_in deck first) (singles_from (suc deck) files) (singles_in (suc (length files) + deck) file))

none_of : {A : Type 0} (xs : List A) → length xs ≡ 0 → xs ≡ []
none_of [] e = refl
none_of (x ∷ xs) e = absurd (omega arith)

-- one file more, where none was refused before
module _ (files : List (List ℕ)) (file : List ℕ) where
  pub totals-plus : (totals_of files).refused ≡ 0 → file_plus (totals_of files) file ≡ totals_of (files ++ file ∷ [])
  unfolding totals_of file_plus
  totals-plus none_before = go (eqb (file_refusal file) 0) refl
    where
      before : refused_of files ≡ []
      before = none_of (refused_of files) none_before

      go : (b : Bool) → eqb (file_refusal file) 0 ≡ b → file_plus (totals_of files) file ≡ totals_of (files ++ file ∷ [])
      go true e =
          let accepted = eqb-true (file_refusal file) 0 e in
          let d = length (decks_of files) in
          let r = length (refused_of files) in
          let n = of_first file_refusal (refused_of files) in
          let decks : decks_of (files ++ file ∷ []) ≡ decks_of files ++ file ∷ [] = chosen-in (λ f. not (is_refused f)) files file (rw e) in
          let same : refused_of (files ++ file ∷ []) ≡ refused_of files = chosen-out is_refused files file (rw e) in
          let singles : singles_of (files ++ file ∷ []) ≡ singles_of files ++ singles_in (d + 1) file = ap (singles_from 1) decks ∙ singles-more 1 (decks_of files) file in
          let many : length (decks_of (files ++ file ∷ [])) ≡ d + 1 = ap length decks ∙ length-append (decks_of files) (file ∷ []) in
          unless-none (file_refusal file) _ _ accepted
          ∙ systems-plus (d + 1) r n file accepted (singles_of files) (count_in file)
          ∙ sym (λ i. over (many i) (length (same i)) (of_first file_refusal (same i)) (singles i))
      go false e =
          let some = eqb-false (file_refusal file) 0 e in
          let decks : decks_of (files ++ file ∷ []) ≡ decks_of files = chosen-out (λ f. not (is_refused f)) files file (rw e) in
          let more : refused_of (files ++ file ∷ []) ≡ refused_of files ++ file ∷ [] = chosen-in is_refused files file (rw e) in
          let many : length (refused_of (files ++ file ∷ [])) ≡ length (refused_of files) + 1 = ap length more ∙ length-append (refused_of files) (file ∷ []) in
          let number : of_first file_refusal (refused_of (files ++ file ∷ [])) ≡ file_refusal file = ap (of_first file_refusal) (more ∙ ap (λ fs. fs ++ file ∷ []) before) in
          unless-some (file_refusal file) _ _ some
          ∙ sym (λ i. over (length (decks i)) (many i) (number i) (singles_from 1 (decks i)))
