-- A text's lines, byte by byte: bytes without a newline go on with the line, and a newline ends it. So what stands before a line's end is lines of its own. Assumes
-- nothing.
use mathlib.Core.Path.{◌≡◌, refl, sym, ap, ◌∙◌}
use mathlib.Core.Bool.{cond}
use mathlib.Core.List.{List, [], ◌∷◌, ◌++◌, append_assoc, append-nil}
use Prim.Native.Nat.{ℕ, ◌+◌, ◌-◌, ◌≤◌, ◌<◌}
use native.Mathlib.Numerals.{add-one}
use native.Mathlib.Omega.{arith}
use lib.ListN.{length, get_or, take, drop, length-drop}
use lib.Seq.{take_all, take-add, take-suc, take-length}
use borrow.Author.Tests.{ne_eqb}
use Rattle.grammar.specs.Words.{newline, lines_on, lines_of}
use Rattle.grammar.specs.Stands.{part}
use Rattle.grammar.proofs.Walking.{part-more}
use Rattle.listing.specs.Lines.{OneLine, LineEnds, LinesEnd}

pub one_none : {bytes : List ℕ} → bytes ≡ [] → OneLine bytes
one_none none so_far rest = ap (λ x. lines_on so_far (x ++ rest)) none ∙ ap (λ x. lines_on x rest) (sym (append-nil so_far) ∙ ap (λ x. so_far ++ x) (sym none))

-- a byte more
one_more : (bytes : List ℕ) (b : ℕ) → OneLine bytes → (b ≡ newline → ⊥) → OneLine (bytes ++ (b ∷ []))
unfolding lines_on
one_more bytes b one other so_far rest =
    ap (lines_on so_far) (append_assoc bytes (b ∷ []) rest)
    ∙ one so_far (b ∷ rest)
    ∙ ap (λ t. cond t ((so_far ++ bytes) ∷ lines_on [] rest) (lines_on ((so_far ++ bytes) ++ (b ∷ [])) rest)) (ne_eqb b newline other)
    ∙ ap (λ x. lines_on x rest) (append_assoc so_far bytes (b ∷ []))

pub one_on : (text : List ℕ) (at i : ℕ) → at ≤ i → i < length text → OneLine (part text at i) → (get_or text i 0 ≡ newline → ⊥) → OneLine (part text at (i + 1))
one_on text at i low l one other = rw (add-one i, part-more text i l at low) (one_more (part text at i) (get_or text i 0) one other)

-- a line and its newline
pub line-ended : (bytes so_far rest : List ℕ) → OneLine bytes → lines_on so_far (bytes ++ newline ∷ rest) ≡ (so_far ++ bytes) ∷ lines_of rest
unfolding lines_on
line-ended bytes so_far rest one = one so_far (newline ∷ rest)

-- a text that ends with a line: whatever follows, its lines come first
abbrev pub Whole : List ℕ → Type 0
Whole front = (rest : List ℕ) → lines_of (front ++ rest) ≡ lines_of front ++ lines_of rest

pub whole-none : Whole []
unfolding lines_on
whole-none rest = refl

module _ (text : List ℕ) (at : ℕ) (front : Whole (take at text)) where
  -- one line more
  module _ (end : ℕ) (e : LineEnds text at end) (more : end < length text) where
    abbrev next : List ℕ
    next = take at text ++ (part text at end ++ newline ∷ [])

    split : take (end + 1) text ≡ next
    split =
        let past : end ≡ at + (end - at) = omega (arith, e.low) in
        ap (λ n. take n text) (add-one end)
        ∙ take-suc text end 0 more
        ∙ ap (λ b. take end text ++ (b ∷ [])) (e.ends more)
        ∙ ap (λ x. x ++ (newline ∷ [])) (ap (λ n. take n text) past ∙ take-add at (end - at) text)
        ∙ append_assoc (take at text) (part text at end) (newline ∷ [])

    together : (rest : List ℕ) → lines_of (next ++ rest) ≡ lines_of (take at text) ++ part text at end ∷ lines_of rest
    together rest =
        ap lines_of (append_assoc (take at text) (part text at end ++ newline ∷ []) rest ∙ ap (λ x. take at text ++ x) (append_assoc (part text at end) (newline ∷ []) rest))
        ∙ front (part text at end ++ newline ∷ rest)
        ∙ ap (λ x. lines_of (take at text) ++ x) (line-ended (part text at end) [] rest e.one)

    lines-so-far : lines_of next ≡ lines_of (take at text) ++ (part text at end ∷ [])
    unfolding lines_on
    lines-so-far = ap lines_of (sym (append-nil next)) ∙ together []

    pub lines-on : lines_of (take (end + 1) text) ≡ lines_of (take at text) ++ (part text at end ∷ [])
    lines-on = ap lines_of split ∙ lines-so-far

    pub whole-on : Whole (take (end + 1) text)
    whole-on = rw split (λ rest.
        together rest
        ∙ sym (append_assoc (lines_of (take at text)) (part text at end ∷ []) (lines_of rest))
        ∙ ap (λ x. x ++ lines_of rest) (sym lines-so-far))

  -- the last line goes on
  pub lines_end : at ≤ length text → OneLine (drop at text) → LinesEnd text at
  lines_end low one = record {
    within = low;
    on = λ rest.
        let all : text ≡ take at text ++ drop at text =
        sym (take-length text) ∙ ap (λ n. take n text) (let z : length text ≡ at + (length text - at) = omega arith in z)
        ∙ take-add at (length text - at) text
        ∙ ap (λ x. take at text ++ x) (take_all (length text - at) (drop at text) (omega (arith, length-drop at text))) in
        ap (λ x. lines_of (x ++ rest)) all
        ∙ ap lines_of (append_assoc (take at text) (drop at text) rest)
        ∙ front (drop at text ++ rest)
        ∙ ap (λ x. lines_of (take at text) ++ x) (one [] rest);
  }

  pub last-goes-on : LineEnds text at (length text) → LinesEnd text at
  last-goes-on e =
      lines_end e.low (rw (take_all (length text - at) (drop at text) (omega (arith, length-drop at text))) at e.one)

-- nothing stands behind a list's end
pub beyond : (n : ℕ) (l : List ℕ) → length l ≤ n → drop n l ≡ []
beyond n l h = go (drop n l) (omega (arith, length-drop n l))
  where
    go : (x : List ℕ) → length x ≡ 0 → x ≡ []
    go [] e = refl
    go (b ∷ x) e = absurd (omega arith)
