-- Lines read one after another are those of the text so far, and no more than it has bytes. Assumes nothing.
use mathlib.Core.Path.{◌≡◌, refl}
use mathlib.Core.List.{List, [], ◌∷◌, ◌++◌}
use Prim.Native.Nat.{ℕ, ◌+◌, ◌≤◌}
use native.Mathlib.Omega.{arith}
use Rattle.grammar.specs.Words.{lines_on, lines_of}
use Rattle.grammar.specs.Text.{Listed, with_line, with_lines}
use Rattle.listing.specs.declared.Listing.{Listing}
use Rattle.listing.specs.Holds.{Sane, Steps}

-- lines read in two parts
pub lines_more : (s : Listed) (a b : List (List ℕ)) → with_lines s (a ++ b) ≡ with_lines (with_lines s a) b
unfolding with_lines
lines_more s [] b = refl
lines_more s (line ∷ a) b = lines_more (with_line s line) a b

-- nothing was read yet, and one line more
pub steps-none : {l : Listing} {out : List ℕ} → Sane l out → Steps 0 l out l out (λ s. with_lines s (lines_of []))
unfolding lines_on with_lines
steps-none sane = record { sane = sane; few = omega arith; holds = λ s h. h }

pub steps_on : {n m : ℕ} {before after next : Listing} {out then last : List ℕ} (done more : List ℕ) (line : List ℕ)
    → n + 1 ≤ m
    → lines_of more ≡ lines_of done ++ (line ∷ [])
    → Steps n before out after then (λ s. with_lines s (lines_of done))
    → Steps 1 after then next last (λ s. with_line s line)
    → Steps m before out next last (λ s. with_lines s (lines_of more))
unfolding with_lines
steps_on done more line up is before step = record {
  sane = step.sane;
  few = omega (arith, before.few, step.few);
  holds = λ s h. rw (is, lines_more s (lines_of done) (line ∷ [])) (step.holds (with_lines s (lines_of done)) (before.holds s h));
}

pub steps_up : {n m : ℕ} {before after : Listing} {out then : List ℕ} {step : Listed → Listed} → n ≤ m → Steps n before out after then step → Steps m before out after then step
steps_up up steps = record { sane = steps.sane; few = omega (arith, steps.few); holds = steps.holds }
