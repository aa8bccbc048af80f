-- What a text's lines list stays within what a file has room for, line by line. Assumes nothing.
use mathlib.Core.Path.{◌≡◌, refl}
use mathlib.Core.Bool.{Bool, true, false, cond}
use mathlib.Core.List.{List, [], ◌∷◌, ◌++◌}
use Prim.Native.Nat.{ℕ, zero, suc, ◌+◌, ◌≤◌}
use native.Mathlib.Omega.{arith}
use lib.Dec.{eqb, ltb}
use lib.ListN.{length, get_or, replicate, length-append, length-replicate}
use borrow.Author.Tests.{ltb-false}
use Rattle.rules.specs.Refusal.{most_boards}
use Rattle.rules.specs.File.{most_fans, most_systems}
use Rattle.grammar.specs.Words.{words_of}
use Rattle.grammar.specs.Grammar.{of_number, of_thing, of_parts, of_weight, of_board, of_below, a_version, some_fans, a_board}
use Rattle.grammar.specs.Line.{read_line}
use Rattle.grammar.specs.Text.{Fault, fault_at, longest_line, long_line, many_fans, many_boards, many_systems, Listed, nothing, told, counted, versioned, with_fans, with_board, with_system, or_told, added, thing, wordy, with_line, with_lines}

-- line numbers begin with 1
unfoldable pub Numbered : List ℕ → Type 0
Numbered [] = Unit {0}
Numbered (line ∷ lines) = (1 ≤ line) × Numbered lines

numbered_more : (lines : List ℕ) (count line : ℕ) → 1 ≤ line → Numbered lines → Numbered (lines ++ replicate count line)
unfolding Numbered
numbered_more [] zero line l h = tt
numbered_more [] (suc count) line l h = (l, numbered_more [] count line l tt)
numbered_more (x ∷ lines) count line l h = (h.0, numbered_more lines count line l h.1)

pub record Kept (s : Listed) : Type 0 where
  pub fans : length s.survival ≤ most_fans
  pub weighed : length s.weights ≡ length s.survival
  pub placed : length s.boards ≡ length s.survival
  pub lined : length s.fan_lines ≡ length s.survival
  pub numbered : Numbered s.fan_lines
  pub boards : length s.switchboards ≤ most_boards
  pub systems : length s.systems ≤ most_systems

kept-nothing : Kept nothing
unfolding Numbered
kept-nothing = record { fans = omega arith; weighed = refl; placed = refl; lined = refl; numbered = tt; boards = omega arith; systems = omega arith }

kept-cond : (b : Bool) (x y : Listed) → Kept x → Kept y → Kept (cond b x y)
kept-cond true x y p q = p
kept-cond false x y p q = q

module _ (s : Listed) (k : Kept s) where
  kept-told : (f : Fault) → Kept (told s f)
  kept-told f = record {
    fans = k.fans;
    weighed = k.weighed;
    placed = k.placed;
    lined = k.lined;
    numbered = k.numbered;
    boards = k.boards;
    systems = k.systems;
  }

  kept-counted : (begun : Bool) → Kept (counted s begun)
  kept-counted begun = record {
    fans = k.fans;
    weighed = k.weighed;
    placed = k.placed;
    lined = k.lined;
    numbered = k.numbered;
    boards = k.boards;
    systems = k.systems;
  }

  kept-versioned : (version : ℕ) → Kept (versioned s version)
  kept-versioned version = record {
    fans = k.fans;
    weighed = k.weighed;
    placed = k.placed;
    lined = k.lined;
    numbered = k.numbered;
    boards = k.boards;
    systems = k.systems;
  }

  kept-fans : (count parts weight board : ℕ) → 1 ≤ s.lines → length s.survival + count ≤ most_fans → Kept (with_fans s count parts weight board)
  kept-fans count parts weight board l h = record {
    fans = simp (length-append, length-replicate) (omega arith);
    weighed = simp (length-append, length-replicate) (omega (arith, k.weighed));
    placed = simp (length-append, length-replicate) (omega (arith, k.placed));
    lined = simp (length-append, length-replicate) (omega (arith, k.lined));
    numbered = numbered_more s.fan_lines count s.lines l k.numbered;
    boards = k.boards;
    systems = k.systems;
  }

  kept-board : (parts : ℕ) → length s.switchboards + 1 ≤ most_boards → Kept (with_board s parts)
  kept-board parts h = record {
    fans = k.fans;
    weighed = k.weighed;
    placed = k.placed;
    lined = k.lined;
    numbered = k.numbered;
    boards = simp length-append h;
    systems = k.systems;
  }

  kept-system : (set : List ℕ) → length s.systems + 1 ≤ most_systems → Kept (with_system s set)
  kept-system set h = record {
    fans = k.fans;
    weighed = k.weighed;
    placed = k.placed;
    lined = k.lined;
    numbered = k.numbered;
    boards = k.boards;
    systems = simp length-append h;
  }

  kept-or : (more most wanted : ℕ) (first : List ℕ) (next : Listed) → (more ≤ most → Kept next) → Kept (or_told more most wanted first s next)
  kept-or more most wanted first next h = go (ltb most more) refl
    where
      go : (b : Bool) → ltb most more ≡ b → Kept (cond b (told s (fault_at s.lines first wanted 0)) next)
      go true e = kept-told (fault_at s.lines first wanted 0)
      go false e = h (ltb-false most more e)

kept-added : (s : Listed) → Kept s → 1 ≤ s.lines → (first set : List ℕ) → Kept (added s first set)
unfolding added
kept-added s k l first set =
    kept-cond (eqb (get_or set of_thing 0) a_version) _ _ (kept-versioned s k (get_or set of_number 0))
    (kept-cond (eqb (get_or set of_thing 0) some_fans) _ _
    (kept-or s k (length s.survival + get_or set of_number 0) most_fans many_fans first _ (kept-fans s k (get_or set of_number 0) (get_or set of_parts 0) (get_or set of_weight 0) (get_or set of_board 0) l))
    (kept-cond (eqb (get_or set of_thing 0) a_board) _ _
    (kept-or s k (length s.switchboards + 1) most_boards many_boards first _ (kept-board s k (get_or set of_parts 0)))
    (kept-or s k (length s.systems + 1) most_systems many_systems first _ (kept-system s k set))))

kept-wordy : (s : Listed) → Kept s → (line : List ℕ) (words : List (List ℕ)) → Kept (wordy s line words)
unfolding wordy thing
kept-wordy s k line [] = kept-counted s k s.begun
kept-wordy s k line (first ∷ words) =
    let c = kept-counted s k true in
    let r = read_line s.version s.begun line in
    kept-cond (eqb r.ended 0) _ _ (kept-added (counted s true) c (omega arith) first r.set) (kept-told (counted s true) c (fault_at (s.lines + 1) r.word r.ended (get_or r.set of_below 0)))

kept-lines : (lines : List (List ℕ)) (s : Listed) → Kept s → Kept (with_lines s lines)
unfolding with_lines with_line
kept-lines [] s k = k
kept-lines (line ∷ lines) s k =
    kept-lines lines _ (kept-cond (ltb longest_line (length line)) _ _ (kept-told (counted s s.begun) (kept-counted s k s.begun) (fault_at (s.lines + 1) [] long_line 0)) (kept-wordy s k line (words_of line)))

pub kept_read : (lines : List (List ℕ)) → Kept (with_lines nothing lines)
kept_read lines = kept-lines lines nothing kept-nothing
