-- A stream's files added one after another are its totals; and after each file that was not refused there is room for the next. Assumes nothing.
use mathlib.Core.Path.{◌≡◌, refl, sym, ap, ◌∙◌}
use mathlib.Core.Bool.{Bool, true, false, cond, not}
use mathlib.Core.List.{List, [], ◌∷◌, ◌++◌, append_assoc, append-nil}
use Prim.Native.Nat.{ℕ, zero, suc, ◌+◌, ◌*◌, ◌≤◌}
use native.Mathlib.Omega.{arith}
use lib.Dec.{eqb, eqb-suc-zero}
use lib.ListN.{length}
use Rattle.rules.specs.declared.Rating.{Rating}
use Rattle.rules.specs.Below.{within}
use Rattle.rules.specs.Answer.{unless}
use Rattle.rules.specs.File.{most_systems, count_in, file_refusal, answer_in}
use Rattle.rules.proofs.Tests.{by-test}
use Rattle.ending.specs.Ending.{file_at, rest_at}
use Rattle.deck.proofs.Sound.{sound}
use Rattle.totals.specs.declared.Totals.{Totals}
use Rattle.rules.specs.Refusal.{last_kind}
use Rattle.totals.specs.Season.{chosen, is_refused, totals_of}
use Rattle.totals.specs.Plus.{one_if, system_plus, systems_plus, deck_plus, refusal_plus, file_plus, files_plus}
use Rattle.totals.specs.Room.{most_files, Room}
use Rattle.totals.specs.Stream.{is_empty, files_in, files_of}
use Rattle.totals.proofs.Chosen.{chosen-out}
use Rattle.totals.proofs.Spare.{totals-more, systems-room}
use Rattle.totals.proofs.Growing.{totals-plus}

-- behind files of which none was refused
stream-plus : (most : ℕ) (stream : List ℕ) (files : List (List ℕ)) → (totals_of files).refused ≡ 0
    → files_plus (totals_of files) (files_in most stream) ≡ totals_of (files ++ files_in most stream)
unfolding files_plus files_in totals_of
stream-plus zero stream files none = ap totals_of (sym (append-nil files))
stream-plus (suc most) stream files none = by_end (is_empty stream) (is_refused (file_at stream)) refl (λ next later. stream-plus most (rest_at stream) next later)
  where
    file : List ℕ
    file = file_at stream

    rest : List (List ℕ)
    rest = files_in most (rest_at stream)

    passed : is_refused file ≡ false → (totals_of (files ++ file ∷ [])).refused ≡ 0
    passed e = ap length (chosen-out is_refused files file e) ∙ none

    by-refusal : (t : Bool) → is_refused file ≡ t → ((next : List (List ℕ)) → (totals_of next).refused ≡ 0 → files_plus (totals_of next) rest ≡ totals_of (next ++ rest))
        → files_plus (totals_of files) (file ∷ cond t [] rest) ≡ totals_of (files ++ file ∷ cond t [] rest)
    by-refusal true e later = totals-plus files file none
    by-refusal false e later =
        ap (λ t. files_plus t rest) (totals-plus files file none) ∙ later (files ++ file ∷ []) (passed e) ∙ ap totals_of (append_assoc files (file ∷ []) rest)

    by_end : (b t : Bool) → is_refused file ≡ t → ((next : List (List ℕ)) → (totals_of next).refused ≡ 0 → files_plus (totals_of next) rest ≡ totals_of (next ++ rest))
        → files_plus (totals_of files) (cond b [] (file ∷ cond t [] rest)) ≡ totals_of (files ++ cond b [] (file ∷ cond t [] rest))
    by_end true t e later = ap totals_of (sym (append-nil files))
    by_end false t e later = by-refusal t e later

-- the files of a stream
pub stream-totals : (stream : List ℕ) → files_plus (totals_of []) (files_of stream) ≡ totals_of (files_of stream)
unfolding totals_of chosen
stream-totals stream = stream-plus most_files stream [] refl

-- a system leaves the counts of files as they are, and so does a deck's last
system-keeps : (t : Totals) (system unit kind : ℕ) (answer : Rating)
    → ((system_plus t system unit kind answer).decks ≡ t.decks) × ((system_plus t system unit kind answer).refused ≡ t.refused)
unfolding system_plus
system-keeps t system unit kind answer =
    by-test (λ (x : Totals). (x.decks ≡ t.decks) × (x.refused ≡ t.refused)) (within 1 kind last_kind) _ _ (λ e. (refl, refl)) (λ e. (refl, refl))

systems-keep : (t : Totals) (bytes : List ℕ) (m : ℕ) → ((systems_plus t bytes m).decks ≡ t.decks) × ((systems_plus t bytes m).refused ≡ t.refused)
unfolding systems_plus
systems-keep t bytes zero = (refl, refl)
systems-keep t bytes (suc m) =
    let step = system-keeps (systems_plus t bytes m) (suc m) _ _ (answer_in bytes m) in
    let before = systems-keep t bytes m in
    (step.0 ∙ before.0, step.1 ∙ before.1)

-- a file is one deck more, or one refused, and the totals keep their room
pub record Kept (t : Totals) (file : List ℕ) (after : Totals) : Type 0 where
  pub most : after.decks ≤ t.decks + 1
  pub refused : after.refused ≡ t.refused + one_if (is_refused file)
  pub room : Room (most_systems * after.decks) after

pub file-kept : (t : Totals) (file : List ℕ) → Room (most_systems * t.decks) t → Kept t file (file_plus t file)
unfolding file_plus unless
file-kept t file room = go (file_refusal file) refl
  where
    go : (r : ℕ) → file_refusal file ≡ r → Kept t file (unless r (refusal_plus t) (systems_plus (deck_plus t) file (count_in file)))
    go zero accepted =
        let keep = (systems-keep (deck_plus t) file (count_in file)).0 in
        let none : one_if (is_refused file) ≡ 0 = ap (λ n. one_if (not (eqb n 0))) accepted in
        let start : Room (most_systems * t.decks) (deck_plus t) = record { other = room.other; eight = room.eight; kinds = room.kinds } in
        let few = (sound file accepted).most-systems in
        record {
          most = omega (arith, keep);
          refused = omega (arith, none, (systems-keep (deck_plus t) file (count_in file)).1);
          room = totals-more (most_systems * t.decks + count_in file) (most_systems * (systems_plus (deck_plus t) file (count_in file)).decks) (omega (arith, keep)) _
              (systems-room (most_systems * t.decks) (deck_plus t) file (count_in file) start);
        }
    go (suc r) refused =
        let one : one_if (is_refused file) ≡ 1 = ap (λ b. one_if (not b)) (ap (λ n. eqb n 0) refused ∙ eqb-suc-zero r) in
        record { most = omega arith; refused = omega (arith, one); room = record { other = room.other; eight = room.eight; kinds = room.kinds } }
