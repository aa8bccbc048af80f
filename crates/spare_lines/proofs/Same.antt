-- The lines of the figures in arrays are those of the stretch whose figures they are. Assumes nothing.
use mathlib.Core.Path.{◌≡◌, refl, ap, ap₂, ◌∙◌}
use mathlib.Core.Bool.{cond}
use mathlib.Core.List.{List, ◌++◌}
use Prim.Native.Nat.{ℕ, zero, suc, ◌+◌, ◌≤◌, ◌<◌}
use native.Mathlib.Omega.{arith}
use borrow.Author.Tests.{lt-ltb}
use Rattle.rules.specs.Asked.{Asked, size_of}
use Rattle.places.specs.declared.Ends.{Ends}
use Rattle.printing.specs.Lines.{lines_text}
use Rattle.spares.specs.declared.Places.{Places}
use Rattle.spares.specs.Places.{AsItIs, low_with, high_with, Placed}
use Rattle.spare_lines.specs.Lines.{ends_of, now_of, after_of, gain_line, gains_text, place_in, gain_lines}

pub lines_same : (k : ℕ) (f g : ℕ → List ℕ) → ((i : ℕ) → i < k → f i ≡ g i) → lines_text k f ≡ lines_text k g
unfolding lines_text
lines_same zero f g h = refl
lines_same (suc k) f g h = ap₂ ◌++◌ (lines_same k f g (λ i l. h i (omega arith))) (h k (omega arith))

-- the figures in arrays
pub now-is : {q : Asked} {r : Ends} → AsItIs q r → r ≡ now_of q
now-is h = ap₂ ends_of h.low h.high

pub place_is : {q : Asked} {p : ℕ} {r : Places} → Placed q p r → (i : ℕ) → i < size_of q → place_in r i ≡ after_of q p i
place_is {q} {p} h i l =
    ap₂ ends_of (h.low i ∙ ap (λ b. cond b (low_with q p i) 0) (lt-ltb i (size_of q) l)) (h.high i ∙ ap (λ b. cond b (high_with q p i) 0) (lt-ltb i (size_of q) l))

pub gains-same : (s : ℕ) {q : Asked} {p : ℕ} {r : Places} {before : Ends} → Placed q p r → AsItIs q before
    → gain_lines s q.a (size_of q) r before ≡ gains_text s p q
gains-same s {q} {p} {r} {before} placed now =
    lines_same (size_of q) _ _ (λ i l. ap₂ (gain_line s (q.a + i)) (place_is placed i l) (now-is now))
