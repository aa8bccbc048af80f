-- How long the lines can be, since no number has more than 20 digits; and that they are those of any list that begins alike. Assumes nothing.
use mathlib.Core.Path.{◌≡◌, refl, ap₂}
use mathlib.Core.List.{List, ◌++◌}
use Prim.Native.Nat.{ℕ, zero, suc, ◌+◌, ◌*◌, ◌≤◌, ◌<◌}
use native.Mathlib.Omega.{arith}
use lib.ListN.{length, get_or, length-append}
use Rattle.rules.specs.Mending.{per_change}
use Rattle.text.proofs.Digits.{decimal-short}
use Rattle.deckmend.specs.Lines.{change_text, change_room, changes_text}

change-short : (place old new : ℕ) → length (change_text place old new) ≤ change_room
change-short place old new = simp length-append (omega (arith, decimal-short place, decimal-short old, decimal-short new))

pub changes-short : (k : ℕ) (list : List ℕ) → length (changes_text k list) ≤ change_room * k
unfolding changes_text
changes-short zero list = omega arith
changes-short (suc k) list =
    let at = per_change * k in
    let line = change_text (get_or list at 0) (get_or list (at + 1) 0) (get_or list (at + 2) 0) in
    omega (arith, length-append (changes_text k list) line, changes-short k list, change-short (get_or list at 0) (get_or list (at + 1) 0) (get_or list (at + 2) 0))

pub changes-alike : (k : ℕ) (xs ys : List ℕ) → ((p : ℕ) → p < per_change * k → get_or xs p 0 ≡ get_or ys p 0) → changes_text k xs ≡ changes_text k ys
unfolding changes_text
changes-alike zero xs ys same = refl
changes-alike (suc k) xs ys same =
    let at = per_change * k in
    let place = same at (omega arith) in
    let old = same (at + 1) (omega arith) in
    let new = same (at + 2) (omega arith) in
    ap₂ (λ before line. before ++ line) (changes-alike k xs ys (λ p l. same p (omega arith))) (λ x. change_text (place x) (old x) (new x))
