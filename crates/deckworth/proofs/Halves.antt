-- Lines in two buffers: a text in one of them and nothing in the other, and the lines of two halves of the systems, are all lines; and what stands there for the front
-- of an input stands there for the input. Assumes nothing.
use mathlib.Core.Path.{◌≡◌, sym, ap, ◌∙◌}
use mathlib.Core.Bool.{Bool}
use mathlib.Core.List.{List, ◌++◌, append-nil}
use Prim.Native.Nat.{ℕ, ◌+◌, ◌-◌, ◌≤◌}
use native.Mathlib.Omega.{arith}
use lib.ListN.{take}
use Rattle.text.specs.Added.{Added}
use Rattle.text.proofs.Adding.{none-added, added-counts}
use Rattle.printing.specs.Front.{Fronted}
use Rattle.printing.specs.Lines.{lines_text, worded_print}
use Rattle.printing.proofs.Lined.{lines_split}
use Rattle.printing.proofs.Printed.{same-worded}
use Rattle.rules.specs.File.{file_refusal}
use Rattle.deckworth.specs.Lines.{fans_text, some_text, list_text, half, InTwo, WholeInTwo}

module _ {out after : List ℕ} {end : ℕ} where
  pub in-first : {text : List ℕ} (more : List ℕ) → Added text out 0 after end → InTwo text after end more 0
  in-first {text} more added = record {
    first = added-counts added;
    second = added-counts (none-added more 0);
    stands = append-nil (take end after) ∙ added.stands;
  }

  pub in_both : {text rest more last : List ℕ} {stop : ℕ} → Added text out 0 after end → Added rest more 0 last stop → InTwo (text ++ rest) after end last stop
  in_both one two = record {
    first = added-counts one;
    second = added-counts two;
    stands = λ i. one.stands i ++ two.stands i;
  }

-- a text that is the same
pub two-same : {text other out more : List ℕ} {end stop : ℕ} → other ≡ text → InTwo text out end more stop → InTwo other out end more stop
two-same same two = record { first = two.first; second = two.second; stands = two.stands ∙ sym same }

-- the lines of the systems from the first on
pub from_first : (words : Bool) (bytes : List ℕ) (m : ℕ) → some_text words bytes 0 m ≡ lines_text m (fans_text words bytes)
from_first words bytes m = λ i. lines_text m (λ k. fans_text words bytes (from-0 k i))
  where
    from-0 : (k : ℕ) → 0 + k ≡ k
    from-0 k = omega arith

-- the lines of both halves
pub halves : (words : Bool) (bytes : List ℕ) (m : ℕ) → half ≤ m → some_text words bytes 0 half ++ some_text words bytes half (m - half) ≡ lines_text m (fans_text words bytes)
halves words bytes m more =
    let whole : half + (m - half) ≡ m = omega (arith, more) in
    ap (λ t. t ++ some_text words bytes half (m - half)) (from_first words bytes half)
    ∙ lines_split half (m - half) (fans_text words bytes)
    ∙ ap (λ k. lines_text k (fans_text words bytes)) whole

-- for the whole input
pub whole-in-two : (words : Bool) {buffer : List ℕ} {filled : ℕ} {file : List ℕ} → Fronted buffer filled file → {out : List ℕ} {end : ℕ} {more : List ℕ} {stop : ℕ}
    → InTwo (worded_print words (list_text words) file) out end more stop → WholeInTwo words buffer filled out end more stop
whole-in-two words {file} is two = record {
  first = two.first;
  second = two.second;
  stands = λ input front. two.stands ∙ same-worded words (list_text words) is input front (file_refusal file) (λ x. file_refusal file);
}
