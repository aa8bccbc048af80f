-- What is written for a text that was read: where a fault is told, the faults alone; else the file, and the warnings of its systems. Assumes nothing.
use mathlib.Core.Path.{◌≡◌, refl, sym, ap}
use mathlib.Core.List.{List, [], ◌∷◌}
use Prim.Native.Nat.{ℕ, ◌≤◌}
use native.Mathlib.Omega.{arith}
use lib.ListN.{length, take}
use lib.Seq.{length-take-le}
use borrow.Author.Tests.{eq-eqb, ne_eqb}
use Rattle.rules.specs.Writing.{bytes_for}
use Rattle.text.specs.Added.{Added}
use Rattle.text.proofs.Adding.{added-counts}
use Rattle.grammar.specs.Words.{lines_of}
use Rattle.grammar.specs.Text.{Fault, typed_by}
use Rattle.listing.specs.declared.Listing.{Listing}
use Rattle.listing.specs.Holds.{Sane, HoldsText}
use Rattle.listing.proofs.Handed.{none_told, some-told}
use Rattle.making.specs.Lines.{warnings_text}
use Rattle.making.specs.Made.{file_out, said_out, listed_by, FileOf, file_room, MadeOf}
use Rattle.making.proofs.Filing.{written-lines}

no-faults : (x : List Fault) → length x ≡ 0 → x ≡ []
no-faults [] e = refl
no-faults (f ∷ x) e = absurd (omega arith)

module _ {l : Listing} {out : List ℕ} where
  -- something is told
  pub told-made : Sane l out → (l.told.count ≡ 0 → ⊥) → (file : List ℕ) → MadeOf l out file out (record { size = 0; end = l.told.end })
  unfolding file_out said_out
  told-made sane some file =
      let long : l.told.end ≤ length out = omega (arith, sane.room) in
      record {
        file_counts = (omega arith, refl);
        out_counts = (long, sym (length-take-le l.told.end out long));
        stands = λ text h.
            let faults = (listed_by (lines_of text)).faults in
            let faulty = ne_eqb (length faults) 0 (λ z. some (some-told h.told (no-faults faults z))) in
            (rw faulty, rw faulty h.told.text);
      }

  -- nothing is told
  module _ (none : l.told.count ≡ 0) (room : List ℕ) (long : file_room ≤ length room) {file : List ℕ} {size : ℕ} (is : FileOf l room file size) where
    file-made : (text : List ℕ) → HoldsText l text out → take size file ≡ bytes_for (typed_by (listed_by (lines_of text)))
    file-made text h = is.stands (listed_by (lines_of text)) out h (written-lines (lines_of text) room (none_told h.told none) long)

    pub none_made : {said : List ℕ} {end : ℕ} → Added (warnings_text (take size file) l.systems.count) out 0 said end
        → MadeOf l out file said (record { size = size; end = end })
    unfolding file_out said_out
    none_made added =
        record {
          file_counts = is.counts;
          out_counts = added-counts added;
          stands = λ text h.
              let same = file-made text h in
              let sound = eq-eqb (length (listed_by (lines_of text)).faults) 0 (ap length (none_told h.told none)) in
              (rw sound same, rw (sound, ← same, ← h.systems.count) added.stands);
        }
