-- What stands at the front of both buffers is what is written for the whole input: its front in a buffer that takes the longest file is mended as the whole is, and the bytes
-- that follow are cut too. Assumes nothing.
use mathlib.Core.Path.{◌≡◌, refl, sym, ap, ap₂, ◌∙◌}
use mathlib.Core.List.{List, ◌++◌}
use Prim.Native.Nat.{ℕ, ◌+◌, ◌*◌, ◌≤◌}
use native.Mathlib.Decide.{dec_le}
use native.Mathlib.Omega.{arith}
use lib.ListN.{length, take, drop, length-append, get_or-append}
use lib.IntN.{ℤ}
use lib.Seq.{length-take-le, take_all, take_at}
use Rattle.io.specs.Counts.{IsPrefixLen}
use Rattle.rules.specs.declared.Mending.{Mending}
use Rattle.rules.specs.declared.Mending.TheVariants.{Mended, Refused}
use Rattle.rules.specs.Mending.{mended, per_change, changes_in, changed_in, cut_from, beyond_mending, mend_refusal, front_of, room_mended, list_mended}
use Rattle.rules.proofs.Unless.{unless-some, unless-none}
use Rattle.rules.proofs.Changes.{changes-length}
use Rattle.text.specs.Added.{Added}
use Rattle.mend.specs.Outcome as outcome
use Rattle.mend.proofs.Heading.{changed-most}
use Rattle.mend.proofs.Front.{AsWhole, as-whole}
use Rattle.mend.proofs.Outcome.{rooms-enough}
use Rattle.shell.specs.Status.{Handed}
use Rattle.printing.specs.Front.{Front}
use Rattle.printing.specs.Lines.{file_text}
use Rattle.text.proofs.Adding.{added-counts}
use Rattle.deckmend.specs.Lines.{changes_text, cut_text, most_changes}
use Rattle.deckmend.specs.declared.mending.Told.{Told}
use Rattle.deckmend.specs.Whole.{file_room, WholeMended, MendedEnds}
use Rattle.deckmend.proofs.Lengths.{changes-alike}

-- a whole input by its front, or by all of it
front-whole : (input buffer : List ℕ) (filled : ℕ) → Front input buffer filled → file_room ≤ length buffer → AsWhole (take filled buffer) input
front-whole input buffer filled front large =
    rw front.same
    (elim (dec_le (length input) (length buffer)) [
      | yes l ↦
          rw (take_all filled input (omega (arith, front.most)))
          (record { refusal = refl; file = λ none. refl; list = λ none. refl; count = λ none. refl; cut = λ none. omega arith })
      | no g ↦ as-whole input filled (omega (arith, front.most)) (omega (arith, front.most))
    ])

-- bytes that are counted
counted : (n : ℕ) (xs : List ℕ) → n ≤ length xs → IsPrefixLen n xs
counted n xs h = (h, sym (length-take-le n xs h))

module _ (buffer : List ℕ) (filled rest : ℕ) {file list fileAfter listAfter : List ℕ} {r : Mending} (is : outcome.Mended (take filled buffer) file list fileAfter listAfter r)
    (within : filled ≤ length buffer) (large : file_room ≤ length buffer) (room : file_room ≤ length file) (listed : per_change * most_changes ≤ length list) where
  abbrev front : List ℕ
  front = take filled buffer

  own-refusal : mend_refusal front file list ≡ beyond_mending front
  own-refusal = rooms-enough front file list room listed

  -- few changes, and no more is cut than was read
  pub mended-few : {size changed cut : ℕ} → r ≡ Mended size changed cut → (changed ≤ most_changes) × (cut ≤ filled)
  mended-few e =
      let given = rw e at is.answered in (
        omega (arith, given.2, changed-most front (sym own-refusal ∙ given.0)),
        omega (arith, given.3, length-take-le filled buffer within),
      )

  -- a refused file: nothing, and its line
  pub refused-whole : {number end : ℕ} {out after : List ℕ} → r ≡ Refused number → Added (file_text number) out 0 after end
      → WholeMended buffer filled rest fileAfter after (record { size = 0; end = end })
  refused-whole {number} {end} {out} {after} e added =
      let given = rw e at is.answered in
      record {
        file_counts = counted 0 fileAfter (omega arith);
        out_counts = added-counts added;
        stands = λ input fronts long.
            let whole = front-whole input buffer filled fronts large in
            let same : number ≡ beyond_mending input = given.0 ∙ own-refusal ∙ whole.refusal in
            let some : beyond_mending input ≡ 0 → ⊥ = λ z. omega (arith, given.1, given.0, same) in
            (sym (unless-some _ _ _ some), added.stands ∙ ap file_text same ∙ sym (unless-some _ _ _ some));
      }

  -- a mended one: its bytes, the lines of the list, and what is cut
  pub mended-whole : {size changed cut end : ℕ} {out after : List ℕ} → r ≡ Mended size changed cut
      → Added (changes_text changed listAfter ++ cut_text (cut + rest)) out 0 after end
      → WholeMended buffer filled rest fileAfter after (record { size = size; end = end })
  unfolding room_mended list_mended
  mended-whole {size} {changed} {cut} {end} {out} {after} e added =
      let given = rw e at is.answered in
      let accepted = given.0 in
      let none : beyond_mending front ≡ 0 = sym own-refusal ∙ accepted in
      let written : fileAfter ≡ front_of (mended front) file = is.written ∙ unless-none _ _ _ accepted in
      let told : listAfter ≡ front_of (changes_in front) list = is.told ∙ unless-none _ _ _ accepted in
      let bytes : take size fileAfter ≡ mended front = ap (take size) written ∙ take_at (mended front) (drop (length (mended front)) file) size (sym given.1) in
      let three = changes-length front (mended front) (length (mended front)) in
      let lines : changes_text changed listAfter ≡ changes_text (changed_in front) (changes_in front) =
      ap₂ changes_text given.2 told
      ∙ changes-alike (changed_in front) (front_of (changes_in front) list) (changes_in front) (λ p l. get_or-append (changes_in front) (drop (length (changes_in front)) list) 0 p (omega (arith, three)))
      in
      record {
        file_counts = counted size fileAfter (omega (arith, given.1, ap length written ∙ length-append (mended front) (drop (length (mended front)) file)));
        out_counts = added-counts added;
        stands = λ input fronts long.
            let whole = front-whole input buffer filled fronts large in
            let free : beyond_mending input ≡ 0 = sym whole.refusal ∙ none in
            let more : cut + rest ≡ cut_from input = omega (arith, given.3, whole.cut free, length-take-le filled buffer within, long) in (
              bytes ∙ whole.file free ∙ sym (unless-none _ _ _ free),
              added.stands
                  ∙ ap₂ (λ ls c. ls ++ cut_text c) (lines ∙ ap₂ changes_text (whole.count free) (whole.list free)) more
                  ∙ sym (unless-none _ _ _ free),
            );
      }

-- what is handed over is the file of the whole input
pub mended-ends : {buffer : List ℕ} {filled rest : ℕ} {file out : List ℕ} {t : Told} {r : ℤ} → WholeMended buffer filled rest file out t → Handed (length (take t.size file)) r
    → MendedEnds buffer filled rest r
mended-ends whole handed = record { ends = λ input front size. rw (whole.stands input front size).0 at handed }
