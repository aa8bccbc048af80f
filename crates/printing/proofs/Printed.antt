-- What stands at the front of a buffer is what is printed for the whole input: the line of a refused file, or the lines of one that is not. Assumes nothing.
use mathlib.Core.Path.{◌≡◌, refl, sym, ap, ◌∙◌}
use mathlib.Core.Bool.{Bool, not}
use mathlib.Core.List.{List, ◌++◌}
use Prim.Native.Nat.{ℕ, zero, suc}
use native.Mathlib.Omega.{arith}
use lib.Dec.{eqb}
use borrow.Author.Tests.{ne_eqb}
use Rattle.std.specs.Result.{is_err}
use lib.IntN.{ℤ}
use Rattle.shell.specs.Status.{status_of, OrFailed}
use Rattle.rules.specs.File.{file_refusal}
use Rattle.rules.proofs.Numbers.{number-some}
use Rattle.rules.proofs.Unless.{unless-some, unless-none}
use Rattle.text.specs.Decimal.{text}
use Rattle.text.specs.Added.{Added}
use Rattle.text.proofs.Adding.{added-counts}
use Rattle.std.proofs.Common.{Result, Ok, Err}
use Rattle.rules.specs.declared.refusal.Refusal.{Refusal}
use Rattle.rules.specs.Refusal.{number, refusal_in}
use Rattle.deck.specs.declared.Head.{Head}
use Rattle.deck.specs.Outcome.{Opens}
use Rattle.deck.proofs.Outcome.{opened-accepted, opened-refused}
use Rattle.printing.specs.Lines.{file_text, print_text, worded_text, file_worded, worded_print}
use Rattle.printing.specs.Front.{Front, Fronted, WholePrinted, WholeWorded, WholeRefused, WholeEnds}

-- by what opening a file answers
module _ (body : List ℕ → List ℕ) {bytes : List ℕ} {out after : List ℕ} {end : ℕ} where
  pub refused-printed : {r : Refusal} → Opens bytes (Err r) → Added (file_text (number r)) out 0 after end → Added (print_text body bytes) out 0 after end
  unfolding print_text
  refused-printed opens added =
      rw (unless-some (file_refusal bytes) file_text (body bytes) (opened-refused opens), ← opens.refusal) added

  pub body-printed : {head : Head} → Opens bytes (Ok head) → Added (body bytes) out 0 after end → Added (print_text body bytes) out 0 after end
  unfolding print_text
  body-printed opens added = rw (unless-none (file_refusal bytes) file_text (body bytes) (opened-accepted opens)) added

-- a file that is read for the whole input prints as the input
module _ (body : List ℕ → List ℕ) {buffer : List ℕ} {filled : ℕ} {file : List ℕ} (is : Fronted buffer filled file) where
  same_text : (input : List ℕ) → Front input buffer filled → (r : ℕ) → file_refusal file ≡ r → print_text body file ≡ print_text body input
  unfolding print_text
  same_text input front zero none = ap (print_text body) (is.whole input front none)
  same_text input front (suc r) e =
      let same = is.refusal input front in
      let some : file_refusal file ≡ 0 → ⊥ = λ none. omega (arith, sym e ∙ none) in
      unless-some (file_refusal file) _ _ some ∙ ap file_text same ∙ sym (unless-some (file_refusal input) _ _ (λ none. some (same ∙ none)))

  pub whole-printed : {out after : List ℕ} {end : ℕ} → Added (print_text body file) out 0 after end → WholePrinted body buffer filled after end
  whole-printed added = record {
    counts = added-counts added;
    stands = λ input front. added.stands ∙ same_text input front (file_refusal file) (λ x. file_refusal file);
  }

-- the same where words are asked for: what opening a file answers, and the whole input
pub print-worded : (words : Bool) (body : List ℕ → List ℕ) {bytes : List ℕ} {head : Head} → Opens bytes (Ok head) → worded_print words body bytes ≡ body bytes
unfolding worded_print
print-worded words body {bytes} opens = unless-none (file_refusal bytes) (file_worded words bytes) (body bytes) (opened-accepted opens)

module _ (words : Bool) (body : List ℕ → List ℕ) {bytes : List ℕ} {out after : List ℕ} {end : ℕ} where
  pub refused-worded : {r : Refusal} → Opens bytes (Err r) → Added (file_worded words bytes (number r)) out 0 after end → Added (worded_print words body bytes) out 0 after end
  unfolding worded_print
  refused-worded opens added =
      rw (unless-some (file_refusal bytes) (file_worded words bytes) (body bytes) (opened-refused opens), ← opens.refusal) added

  pub body-worded : {head : Head} → Opens bytes (Ok head) → Added (body bytes) out 0 after end → Added (worded_print words body bytes) out 0 after end
  body-worded opens added = rw (print-worded words body opens) added

module _ (words : Bool) (body : List ℕ → List ℕ) {buffer : List ℕ} {filled : ℕ} {file : List ℕ} (is : Fronted buffer filled file) where
  pub same-worded : (input : List ℕ) → Front input buffer filled → (r : ℕ) → file_refusal file ≡ r → worded_print words body file ≡ worded_print words body input
  unfolding worded_print
  same-worded input front zero none = ap (worded_print words body) (is.whole input front none)
  same-worded input front (suc r) e =
      let same = is.refusal input front in
      let some : file_refusal file ≡ 0 → ⊥ = λ none. omega (arith, sym e ∙ none) in
      unless-some (file_refusal file) _ _ some ∙ (λ i. text "file" ++ worded_text words (is.why input front i) (same i))
      ∙ sym (unless-some (file_refusal input) _ _ (λ none. some (same ∙ none)))

  pub whole-worded : {out after : List ℕ} {end : ℕ} → Added (worded_print words body file) out 0 after end → WholeWorded words body buffer filled after end
  whole-worded added = record {
    counts = added-counts added;
    stands = λ input front. added.stands ∙ same-worded input front (file_refusal file) (λ x. file_refusal file);
  }

-- and it is opened as the input
pub opened-whole : {buffer file : List ℕ} {filled : ℕ} (r : Result Head Refusal) → Fronted buffer filled file → Opens file r → (input : List ℕ) → Front input buffer filled → Opens input r
opened-whole (Ok head) is opens input front = rw (is.whole input front (opened-accepted opens)) at opens
opened-whole (Err refused) is opens input front = record { refusal = opens.refusal ∙ is.refusal input front; head = tt }

-- whether it was refused
pub refused-is : {A : Type 0} (r : Result A Refusal) → is_err r ≡ not (eqb (refusal_in r) 0)
refused-is (Ok x) = refl
refused-is (Err e) = ap not (sym (ne_eqb (number e) 0 (number-some e)))

-- a status by whether the front is refused is one by whether the input is
pub ends-refused : {buffer : List ℕ} {filled : ℕ} {b tested : Bool} {r : ℤ} → WholeRefused buffer filled b → b ≡ tested → OrFailed (status_of tested) r → WholeEnds buffer filled r
ends-refused tells is status = record { ends = λ input front. rw (sym (tells.tells input front) ∙ is) status }
