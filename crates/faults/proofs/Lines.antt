-- A text's lines, byte by byte: line k of the whole is line k - `line` of what is left, of which `from` to i is read. Assumes nothing.
use mathlib.Core.Path.{◌≡◌, refl, sym, ◌∙◌}
use mathlib.Core.List.{List, [], ◌∷◌, ◌++◌}
use Prim.Native.Nat.{ℕ, zero, suc, ◌+◌, ◌-◌, ◌≤◌, ◌<◌}
use native.Mathlib.Omega.{arith}
use native.Mathlib.Numerals.{add-one}
use lib.ListN.{length, get_or, drop, length-drop}
use lib.Seq.{drop-cons, drop-length, take-suc, get_or-drop}
use borrow.Author.Tests.{eq-eqb, ne_eqb}
use Rattle.grammar.specs.Words.{newline, closed, lines_on, lines_of}
use Rattle.grammar.specs.Stands.{part}
use Rattle.faults.specs.Lines.{LineAt}

-- what is left has the line
pub record Reached (table : List ℕ) (k line from i : ℕ) : Type 0 where
  pub low : from ≤ i
  pub high : i ≤ length table
  pub passed : line ≤ k
  pub same : get_or (lines_on (part table from i) (drop i table)) (k - line) [] ≡ get_or (lines_of table) k []

only : (so_far : List ℕ) → get_or (closed so_far []) 0 [] ≡ so_far
only [] = refl
only (b ∷ so_far) = refl

behind : (so_far : List ℕ) (k : ℕ) → 0 < k → get_or (closed so_far []) k [] ≡ []
behind so_far zero l = absurd (omega arith)
behind [] (suc k) l = refl
behind (b ∷ so_far) (suc k) l = refl

module _ (table : List ℕ) (k : ℕ) where
  pub first-line : Reached table k 0 0 0
  first-line = let e : k - 0 ≡ k = omega arith in record { low = omega arith; high = omega arith; passed = omega arith; same = rw e }

  module _ {line from i : ℕ} (r : Reached table k line from i) where
    nothing : part table i i ≡ []
    nothing = let e : i - i ≡ 0 = omega arith in rw e

    module _ (l : i < length table) where
      abbrev left : List ℕ
      left = drop (suc i) table

      -- a byte that ends no line
      pub more : (get_or table i 0 ≡ newline → ⊥) → Reached table k line from (i + 1)
      unfolding lines_on
      more other =
          let e : suc i - from ≡ suc (i - from) = omega (arith, r.low) in
          let f : from + (i - from) ≡ i = omega (arith, r.low) in
          let s : i - from < length (drop from table) = simp length-drop (omega (arith, r.low)) in
          let longer : part table from (suc i) ≡ part table from i ++ (get_or table i 0 ∷ []) =
          rw (e, take-suc (drop from table) (i - from) 0 s, get_or-drop from table (i - from) 0, f) in
          let on : lines_on (part table from i) (drop i table) ≡ lines_on (part table from (suc i)) left =
          rw (longer, drop-cons table i 0 l, ne_eqb (get_or table i 0) newline other) in
          record { low = omega (arith, r.low); high = omega arith; passed = r.passed; same = rw add-one (rw on at r.same) }

      ended : get_or table i 0 ≡ newline → lines_on (part table from i) (drop i table) ≡ part table from i ∷ lines_on [] left
      unfolding lines_on
      ended here = rw (drop-cons table i 0 l, eq-eqb (get_or table i 0) newline here)

      -- the end of a line before the one looked for, and of that one
      pub next : get_or table i 0 ≡ newline → (line ≡ k → ⊥) → Reached table k (line + 1) (i + 1) (i + 1)
      next here other =
          let e : k - line ≡ suc (k - (line + 1)) = omega (arith, r.passed) in
          let f : i + 1 - (i + 1) ≡ 0 = omega arith in
          record {
            low = omega arith;
            high = omega arith;
            passed = omega (arith, r.passed);
            same = rw (f, add-one i) (rw (ended here, e) at r.same);
          }

      pub found : get_or table i 0 ≡ newline → line ≡ k → LineAt table k from i
      found here is =
          let e : k - line ≡ 0 = omega arith in
          record { low = r.low; high = r.high; line = rw (ended here, e) at r.same }

    module _ (e : length table ≤ i) where
      abbrev end : ℕ
      end = length table

      is-end : i ≡ end
      is-end = omega (arith, r.high)

      last : lines_on (part table from end) (drop end table) ≡ closed (part table from end) []
      unfolding lines_on
      last = rw (drop-length table)

      -- what follows the last line's end
      pub last_line : k ≤ line → LineAt table k from end
      last_line h =
          let f : k - line ≡ 0 = omega arith in
          record { low = omega (arith, r.low, r.high); high = omega arith; line = sym (only (part table from end)) ∙ rw (is-end, last, f) at r.same }

      pub no_line : line < k → LineAt table k end end
      no_line h = record {
        low = omega arith;
        high = omega arith;
        line = (rw is-end at nothing) ∙ sym (behind (part table from end) (k - line) (omega arith)) ∙ rw (is-end, last) at r.same;
      }
