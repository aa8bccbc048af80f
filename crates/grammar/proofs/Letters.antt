-- No two words of at most seven letters have the same number, so a row that takes a word by its letters takes that word alone: read from its end, a word's number
-- tells its last letter and the number of what stands before it. Assumes nothing.
use mathlib.Core.Path.{◌≡◌, refl, sym, ap, ap₂, ◌∙◌}
use mathlib.Core.Bool.{Bool, true, false, cond}
use mathlib.Core.List.{List, [], ◌∷◌, ◌++◌}
use Prim.Native.Nat.{ℕ, ◌+◌, ◌*◌, ◌^◌, ◌≤◌, ◌<◌}
use native.Mathlib.Omega.{arith}
use lib.Dec.{ltb}
use borrow.Author.Tests.{ltb-true}
use Rattle.grammar.specs.Numbers.{longer, with_letter, letters_on, letters_of}

-- each letter is a byte
unfoldable pub Bytes : List ℕ → Type 0
Bytes [] = Unit {0}
Bytes (b ∷ word) = (b < 256) × Bytes word

unfoldable backwards : List ℕ → List ℕ
backwards [] = []
backwards (b ∷ word) = backwards word ++ (b ∷ [])

-- the number of a word that stands backwards
unfoldable back_on : (so_far : ℕ) → List ℕ → ℕ
back_on so_far [] = so_far
back_on so_far (b ∷ word) = with_letter (back_on so_far word) b

back_last : (n b : ℕ) (word : List ℕ) → back_on n (word ++ (b ∷ [])) ≡ back_on (with_letter n b) word
unfolding back_on
back_last n b [] = refl
back_last n b (x ∷ word) = ap (λ m. with_letter m x) (back_last n b word)

letters-back : (n : ℕ) (word : List ℕ) → letters_on n word ≡ back_on n (backwards word)
unfolding letters_on backwards back_on
letters-back n [] = refl
letters-back n (b ∷ word) = letters-back (with_letter n b) word ∙ sym (back_last n b (backwards word))

backwards-last : (b : ℕ) (word : List ℕ) → backwards (word ++ (b ∷ [])) ≡ b ∷ backwards word
unfolding backwards
backwards-last b [] = refl
backwards-last b (x ∷ word) = ap (λ w. w ++ (x ∷ [])) (backwards-last b word)

twice : (word : List ℕ) → backwards (backwards word) ≡ word
unfolding backwards
twice [] = refl
twice (b ∷ word) = backwards-last b (backwards word) ∙ ap (λ w. b ∷ w) (twice word)

bytes-last : (b : ℕ) (word : List ℕ) → b < 256 → Bytes word → Bytes (word ++ (b ∷ []))
unfolding Bytes
bytes-last b [] l h = (l, tt)
bytes-last b (x ∷ word) l h = (h.0, bytes-last b word l h.1)

bytes-backwards : (word : List ℕ) → Bytes word → Bytes (backwards word)
unfolding Bytes backwards
bytes-backwards [] h = tt
bytes-backwards (b ∷ word) h = bytes-last b (backwards word) h.0 (bytes-backwards word h.1)

-- a letter more makes a number of at least 1, and where it is below `longer` what stands before it had room for it
some-letter : (n b : ℕ) → 1 ≤ with_letter n b
some-letter n b = go (ltb n (257 ^ 6))
  where
    go : (t : Bool) → 1 ≤ cond t (n * 257 + b + 1) longer
    go true = omega arith
    go false = omega arith

had-room : (n b : ℕ) → with_letter n b < longer → (n < 257 ^ 6) × (with_letter n b ≡ n * 257 + b + 1)
had-room n b = go (ltb n (257 ^ 6)) refl
  where
    go : (t : Bool) → ltb n (257 ^ 6) ≡ t → cond t (n * 257 + b + 1) longer < longer → (n < 257 ^ 6) × (cond t (n * 257 + b + 1) longer ≡ n * 257 + b + 1)
    go true e h = (ltb-true n (257 ^ 6) e, refl)
    go false e h = absurd (omega arith)

back_one : (a b : List ℕ) → Bytes a → Bytes b → back_on 0 a ≡ back_on 0 b → back_on 0 a < longer → a ≡ b
unfolding Bytes back_on
back_one [] [] p q e l = refl
back_one [] (y ∷ b) p q e l = absurd (omega (arith, some-letter (back_on 0 b) y, e))
back_one (x ∷ a) [] p q e l = absurd (omega (arith, some-letter (back_on 0 a) x, e))
back_one (x ∷ a) (y ∷ b) p q e l =
    let f = had-room (back_on 0 a) x l in
    let g = had-room (back_on 0 b) y (rw e at l) in
    let s : back_on 0 a * 257 + x + 1 ≡ back_on 0 b * 257 + y + 1 = sym f.1 ∙ e ∙ g.1 in
    let v : back_on 0 a ≡ back_on 0 b = omega (arith, s, p.0, q.0) in
    let w : x ≡ y = omega (arith, s, p.0, q.0) in
    ap₂ (λ h t. h ∷ t) w (back_one a b p.1 q.1 v (omega (arith, f.0)))

pub one_word : (a b : List ℕ) → Bytes a → Bytes b → letters_of a ≡ letters_of b → letters_of a < longer → a ≡ b
one_word a b p q e l =
    let same = back_one (backwards a) (backwards b) (bytes-backwards a p) (bytes-backwards b q) (sym (letters-back 0 a) ∙ e ∙ letters-back 0 b) (rw (letters-back 0 a) at l) in
    sym (twice a) ∙ ap backwards same ∙ twice b
