-- Faults told one after another: as long as fewer than twenty are, the next one's line is added; then nothing is. Assumes nothing.
use mathlib.Core.Path.{◌≡◌, sym, ap, ◌∙◌}
use mathlib.Core.List.{List, [], ◌∷◌, ◌++◌, append_assoc, append-nil}
use Prim.Native.Nat.{ℕ, ◌+◌, ◌≤◌, ◌<◌}
use native.Mathlib.Omega.{arith}
use lib.ListN.{length, length-take, length-append}
use lib.Seq.{take_all, take-append-le}
use Rattle.text.specs.Added.{Added}
use Rattle.grammar.specs.Text.{Fault}
use Rattle.faults.specs.Told.{fault_text, faults_text, most_told}
use Rattle.faults.proofs.Lengths.{fault-short}
use Rattle.typed_lists.specs.declared.told.Told.{Told}
use Rattle.typed_lists.specs.Told.{Roomy, Telling, MoreTold}

text-last : (faults : List Fault) (f : Fault) → faults_text (faults ++ (f ∷ [])) ≡ faults_text faults ++ fault_text f
unfolding faults_text
text-last [] f = append-nil (fault_text f)
text-last (x ∷ faults) f = ap (λ t. fault_text x ++ t) (text-last faults f) ∙ sym (append_assoc (fault_text x) (faults_text faults) (fault_text f))

pub told_none : {t : Told} {out : List ℕ} → Roomy t out → MoreTold t out t out []
told_none room = record { room = room; telling = λ so_far h. rw (append-nil so_far) h }

full-telling : {t : Told} {out : List ℕ} {so_far : List Fault} (f : Fault) → most_told ≤ t.count → Telling t so_far out → Telling t (so_far ++ (f ∷ [])) out
full-telling {so_far} f full h =
    let many : most_told ≤ length so_far = omega (arith, h.count, length-take most_told so_far) in
    let same = take-append-le most_told so_far (f ∷ []) many in
    record { count = h.count ∙ ap length (sym same); text = rw same h.text; room = h.room }

pub told-full : {t : Told} {out : List ℕ} (f : Fault) → Roomy t out → most_told ≤ t.count → MoreTold t out t out (f ∷ [])
told-full f room full = record { room = room; telling = λ so_far h. full-telling f full h }

module _ (t : Told) (f : Fault) (few : t.count < most_told) {out then : List ℕ} {end : ℕ} (a : Added (fault_text f) out t.end then end) (kept : length then ≡ length out) where
  abbrev after : Told
  after = record { count = t.count + 1; end = end }

  still-roomy : Roomy t out → Roomy after then
  still-roomy room = omega (arith, room, a.ends, fault-short f)

  more-telling : {so_far : List Fault} → Telling t so_far out → Telling after (so_far ++ (f ∷ [])) then
  more-telling {so_far} h =
      let short : length so_far < most_told = omega (arith, h.count, length-take most_told so_far) in
      let before = take_all most_told so_far (omega (arith, short)) in
      let more = length-append so_far (f ∷ []) in
      let all = take_all most_told (so_far ++ (f ∷ [])) (omega (arith, short, more)) in
      record {
        count = rw all (omega (arith, h.count, ap length before, more));
        text = rw (all, text-last so_far f) (a.stands ∙ ap (λ x. x ++ fault_text f) (h.text ∙ ap faults_text before));
        room = still-roomy h.room;
      }

  pub told_more : Roomy t out → MoreTold t out after then (f ∷ [])
  told_more room = record { room = still-roomy room; telling = λ so_far h. more-telling h }

pub told-then : {a b d : Told} {one two three : List ℕ} {some more : List Fault} → MoreTold a one b two some → MoreTold b two d three more → MoreTold a one d three (some ++ more)
told-then {some = some} {more = more} x y = record {
  room = y.room;
  telling = λ so_far h. rw (← append_assoc so_far some more) (y.telling (so_far ++ some) (x.telling so_far h));
}
