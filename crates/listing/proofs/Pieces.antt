-- A line that is too long is told, whatever it says: so it may be cut while it is still too long, and what follows is read alike. Assumes nothing.
use mathlib.Core.Path.{◌≡◌, sym, ap}
use mathlib.Core.Bool.{Bool, true, false, cond}
use mathlib.Core.List.{List, [], ◌∷◌, ◌++◌}
use Prim.Native.Nat.{ℕ, ◌<◌}
use native.Mathlib.Decide.{dec_le}
use native.Mathlib.Omega.{arith}
use lib.Dec.{eqb}
use lib.ListN.{length, take, length-append}
use lib.Seq.{take_all, length-take-le}
use borrow.Author.Tests.{lt-ltb}
use Rattle.grammar.specs.Words.{newline, lines_on}
use Rattle.grammar.specs.Text.{Listed, longest_line, with_line, with_lines}

cut_line : (s : Listed) (line other : List ℕ) → longest_line < length line → longest_line < length other → with_line s line ≡ with_line s other
unfolding with_line
cut_line s line other l m = rw (lt-ltb longest_line (length line) l, lt-ltb longest_line (length other) m)

module _ (s : Listed) where
  long-on : (rest a b : List ℕ) → longest_line < length a → longest_line < length b → with_lines s (lines_on a rest) ≡ with_lines s (lines_on b rest)
  unfolding lines_on with_lines
  long-on [] [] b l m = absurd (omega arith)
  long-on [] (x ∷ a) [] l m = absurd (omega arith)
  long-on [] (x ∷ a) (y ∷ b) l m = cut_line s (x ∷ a) (y ∷ b) l m
  long-on (x ∷ rest) a b l m = go (eqb x newline) (long-on rest (a ++ (x ∷ [])) (b ++ (x ∷ [])) (omega (arith, length-append a (x ∷ []))) (omega (arith, length-append b (x ∷ []))))
    where
      go : (t : Bool) → with_lines s (lines_on (a ++ (x ∷ [])) rest) ≡ with_lines s (lines_on (b ++ (x ∷ [])) rest)
          → with_lines s (cond t (a ∷ lines_on [] rest) (lines_on (a ++ (x ∷ [])) rest)) ≡ with_lines s (cond t (b ∷ lines_on [] rest) (lines_on (b ++ (x ∷ [])) rest))
      go true p = ap (λ x. with_lines x (lines_on [] rest)) (cut_line s a b l m)
      go false p = p

  -- so much of it is enough
  pub cut-long : (line rest : List ℕ) (room : ℕ) → longest_line < room → with_lines s (lines_on line rest) ≡ with_lines s (lines_on (take room line) rest)
  cut-long line rest room l =
      elim (dec_le (length line) room) [
        | yes short ↦ ap (λ x. with_lines s (lines_on x rest)) (sym (take_all room line short))
        | no g ↦ long-on rest line (take room line) (omega arith) (omega (arith, length-take-le room line (omega arith)))
      ]
