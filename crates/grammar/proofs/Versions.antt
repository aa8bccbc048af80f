-- A line that is read as a version has set 1, 2 or 3: only the row of that number leads to the place where such a line ends. Assumes nothing.
use mathlib.Core.Path.{◌≡◌, refl, sym, ◌∙◌}
use mathlib.Core.Bool.{Bool, true, false, cond, not, ◌&&◌, ◌||◌}
use mathlib.Core.List.{List, [], ◌∷◌}
use Prim.Native.Nat.{ℕ, ◌+◌, ◌≤◌, ◌<◌}
use native.Mathlib.Omega.{arith}
use lib.Dec.{eqb, leb, ltb}
use lib.ListN.{length, get_or, set, replicate, length-set}
use borrow.Author.Tests.{eq-eqb, eqb-true, eqb-false, leb-true, ltb-true, lt-ltb, le-ltb, le-leb}
use Rattle.rules.specs.Below.{some, first}
use Rattle.rules.specs.Refusal.{most_boards, bad_version}
use Rattle.rules.specs.File.{most_fans, most_systems}
use Rattle.grammar.specs.Words.{words_of}
use Rattle.grammar.specs.Numbers.{letters_on}
use Rattle.grammar.specs.Grammar.{by_letters, as_number, sets, of_number, of_thing, of_parts, of_weight, of_board, of_below, a_version, some_fans, a_board, after_version_number, reading, rows, grammar}
use Rattle.grammar.specs.Line.{cell, row_for, value_by, place_after, set_after, Read, stopped, goes_on, start_of, walk, read_line}
use Rattle.grammar.specs.Text.{Listed, fault_at, longest_line, long_line, many_fans, many_boards, many_systems, nothing, told, counted, versioned, with_fans, with_board, with_system, or_told}
use Rattle.grammar.specs.Text.{added, thing, wordy, with_line, with_lines}
use Rattle.grammar.proofs.Rows.{both, either, all-rows, place_out, here, between, set_here, set_there}
use Rattle.grammar.proofs.Ways.{place-some, set-some}
use Rattle.grammar.proofs.Whole.{goes-few}

-- of each row: it leads to a version's end by a number from 1 to 3 that is set first; what says that a line is a version is there; and what says what a line is
-- ends it. The test is computed over the rows, once.
abbrev leads_right : ℕ → Bool
leads_right i = not (eqb (cell i 6) after_version_number) || (eqb (cell i 1) as_number && (eqb (cell i 2) 1 && (eqb (cell i 3) 3 && eqb (cell i 4) of_number)))

abbrev ends_right : ℕ → Bool
ends_right i = not (eqb (cell i 4) of_thing) || (eqb (cell i 6) 0 && (eqb (cell i 1) by_letters && (not (eqb (cell i 5) a_version) || eqb (cell i 0) after_version_number)))

leads-right : (i : ℕ) → i < rows → leads_right i ≡ true
unfolding some grammar letters_on
leads-right = all-rows leads_right refl

ends-right : (i : ℕ) → i < rows → ends_right i ≡ true
unfolding some grammar letters_on
ends-right = all-rows ends_right refl

abbrev pub InRange : ℕ → Type 0
InRange x = (1 ≤ x) × (x ≤ 3)

-- what holds at a place from which a line goes on
record Going (place : ℕ) (x : List ℕ) : Type 0 where
  long : length x ≡ sets
  unsaid : get_or x of_thing 0 ≡ 0
  right : place ≡ after_version_number → InRange (get_or x of_number 0)

module _ (version place : ℕ) (word x : List ℕ) (g : Going place x) where
  abbrev row : ℕ
  row = row_for version place word

  abbrev after : List ℕ
  after = set x (cell row 4) (value_by version row word)

  abbrev read : ℕ
  read = reading version (cell row 1) word

  module _ (l : row < rows) where
    ends : cell row 4 ≡ of_thing → (cell row 6 ≡ 0) × (cell row 1 ≡ by_letters) × (cell row 5 ≡ a_version → place ≡ after_version_number)
    ends e =
        let a = both (eqb (cell row 6) 0) (eqb (cell row 1) by_letters && (not (eqb (cell row 5) a_version) || eqb (cell row 0) after_version_number)) (either (eqb (cell row 4) of_thing) _ (ends-right row l) (eq-eqb (cell row 4) of_thing e)) in
        let b = both (eqb (cell row 1) by_letters) (not (eqb (cell row 5) a_version) || eqb (cell row 0) after_version_number) a.1 in (
          eqb-true (cell row 6) 0 a.0,
          eqb-true (cell row 1) by_letters b.0,
          λ f. sym (here version place word l) ∙ eqb-true (cell row 0) after_version_number (either (eqb (cell row 5) a_version) (eqb (cell row 0) after_version_number) b.1 (eq-eqb (cell row 5) a_version f)),
        )

    leads : cell row 6 ≡ after_version_number → (cell row 1 ≡ as_number) × (cell row 2 ≡ 1) × (cell row 3 ≡ 3) × (cell row 4 ≡ of_number)
    leads e =
        let a = both (eqb (cell row 1) as_number) (eqb (cell row 2) 1 && (eqb (cell row 3) 3 && eqb (cell row 4) of_number)) (either (eqb (cell row 6) after_version_number) _ (leads-right row l) (eq-eqb (cell row 6) after_version_number e)) in
        let b = both (eqb (cell row 2) 1) (eqb (cell row 3) 3 && eqb (cell row 4) of_number) a.1 in
        let d = both (eqb (cell row 3) 3) (eqb (cell row 4) of_number) b.1 in
        (eqb-true (cell row 1) as_number a.0, eqb-true (cell row 2) 1 b.0, eqb-true (cell row 3) 3 d.0, eqb-true (cell row 4) of_number d.1)

    next-going : 1 ≤ cell row 6 → Going (cell row 6) after
    next-going h = record {
      long = rw (length-set x (cell row 4) (value_by version row word)) g.long;
      unsaid = set_there x g.long (cell row 4) (value_by version row word) of_thing (λ e. omega (arith, h, (ends (sym e)).0)) ∙ g.unsaid;
      right = λ e.
          let d = leads e in
          let v : value_by version row word ≡ read = rw (le-ltb (cell row 1) as_number (omega (arith, d.0))) in
          let is = set_here x g.long (cell row 4) (value_by version row word) of_number d.3 (omega arith) ∙ v in
          (omega (arith, is, (between version place word l).0, d.1), omega (arith, is, (between version place word l).1, d.2));
    }

    final : get_or after of_thing 0 ≡ a_version → InRange (get_or after of_number 0)
    final t = go (eqb (cell row 4) of_thing) refl
      where
        go : (b : Bool) → eqb (cell row 4) of_thing ≡ b → InRange (get_or after of_number 0)
        go true q =
            let e = eqb-true (cell row 4) of_thing q in
            let d = ends e in
            let v : value_by version row word ≡ cell row 5 = rw (lt-ltb (cell row 1) as_number (omega (arith, d.1))) in
            let p = g.right (d.2 (sym v ∙ sym (set_here x g.long (cell row 4) (value_by version row word) of_thing e (omega arith)) ∙ t)) in
            let o = set_there x g.long (cell row 4) (value_by version row word) of_number (λ z. omega (arith, z, e)) in
            (omega (arith, o, p.0), omega (arith, o, p.1))
        go false q =
            let o = set_there x g.long (cell row 4) (value_by version row word) of_thing (λ z. eqb-false (cell row 4) of_thing q (sym z)) in
            absurd (omega (arith, o, t, g.unsaid))

module _ (version : ℕ) where
  at_last : (place : ℕ) (word x : List ℕ) → Going place x → place_after version place word ≡ 0 → get_or (set_after version place word x) of_thing 0 ≡ 1
      → InRange (get_or (set_after version place word x) of_number 0)
  at_last place word x g e t = go (ltb (row_for version place word) rows) refl
    where
      go : (b : Bool) → ltb (row_for version place word) rows ≡ b → InRange (get_or (set_after version place word x) of_number 0)
      go true q =
          let l = ltb-true (row_for version place word) rows q in
          let s = set-some version place word x (row_for version place word) refl l in
          rw s (final version place word x g l (rw s at t))
      go false q = absurd (omega (arith, place_out version place word q, e))

  onwards : (place : ℕ) (word x : List ℕ) → Going place x → goes_on (place_after version place word) ≡ true
      → Going (place_after version place word) (set_after version place word x)
  onwards place word x g h = go (ltb (row_for version place word) rows) refl
    where
      go : (b : Bool) → ltb (row_for version place word) rows ≡ b → Going (place_after version place word) (set_after version place word x)
      go true q =
          let l = ltb-true (row_for version place word) rows q in
          let p = place-some version place word x (row_for version place word) refl l in
          let s = set-some version place word x (row_for version place word) refl l in
          let one = leb-true 1 (place_after version place word) (both (leb 1 (place_after version place word)) (leb (place_after version place word) 63) h).0 in
          rw (p, s) (next-going version place word x g l (rw p at one))
      go false q = absurd (omega (arith, place_out version place word q, goes-few (place_after version place word) h))

  walk-version : (words : List (List ℕ)) (place : ℕ) (x : List ℕ) → Going place x → (walk version place x words).ended ≡ 0
      → get_or (walk version place x words).set of_thing 0 ≡ a_version → InRange (get_or (walk version place x words).set of_number 0)
  unfolding walk
  walk-version [] place x g = at_last place [] x g
  walk-version (w ∷ words) place x g =
      go (goes_on (place_after version place w)) refl (walk-version words (place_after version place w) (set_after version place w x))
    where
      end : Bool → Read
      end b = cond b (walk version (place_after version place w) (set_after version place w x) words) (stopped (place_after version place w) w (set_after version place w x))

      go : (b : Bool) → goes_on (place_after version place w) ≡ b → (Going (place_after version place w) (set_after version place w x) → (end true).ended ≡ 0 → get_or (end true).set of_thing 0 ≡ a_version → InRange (get_or (end true).set of_number 0)) → (end b).ended ≡ 0 → get_or (end b).set of_thing 0 ≡ a_version → InRange (get_or (end b).set of_number 0)
      go true q ih e t = ih (onwards place w x g q) e t
      go false q ih e t = at_last place w x g e t

going_start : (begun : Bool) → Going (start_of begun) (replicate sets 0)
going_start begun = record { long = refl; unsaid = refl; right = λ e. absurd (omega (arith, start-two begun, e)) }
  where
    start-two : (b : Bool) → start_of b ≤ 2
    start-two true = omega arith
    start-two false = omega arith

pub read-version : (version : ℕ) (begun : Bool) (line : List ℕ) → (read_line version begun line).ended ≡ 0 → get_or (read_line version begun line).set of_thing 0 ≡ 1
    → InRange (get_or (read_line version begun line).set of_number 0)
unfolding read_line
read-version version begun line = walk-version version (words_of line) (start_of begun) (replicate sets 0) (going_start begun)

-- so the version that a text's lines leave is one
module _ (s : Listed) (v : InRange s.version) where
  version-added : (first set : List ℕ) → (get_or set of_thing 0 ≡ a_version → InRange (get_or set of_number 0)) → InRange (added s first set).version
  unfolding added
  version-added first set h = go (eqb (get_or set of_thing 0) a_version) refl (eqb (get_or set of_thing 0) some_fans) (eqb (get_or set of_thing 0) a_board)
    where
      or-told : (more most wanted : ℕ) (next : Listed) → InRange next.version → InRange (or_told more most wanted first s next).version
      or-told more most wanted next w = pick (ltb most more)
        where
          pick : (b : Bool) → InRange (cond b (told s (fault_at s.lines first wanted 0)) next).version
          pick true = v
          pick false = w

      go : (a : Bool) → eqb (get_or set of_thing 0) a_version ≡ a → (b d : Bool)
          → InRange
          (cond a (versioned s (get_or set of_number 0))
          (cond b (or_told (length s.survival + get_or set of_number 0) most_fans many_fans first s (with_fans s (get_or set of_number 0) (get_or set of_parts 0) (get_or set of_weight 0) (get_or set of_board 0)))
          (cond d (or_told (length s.switchboards + 1) most_boards many_boards first s (with_board s (get_or set of_parts 0)))
          (or_told (length s.systems + 1) most_systems many_systems first s (with_system s set))))).version
      go true e b d = h (eqb-true (get_or set of_thing 0) a_version e)
      go false e true d =
          or-told (length s.survival + get_or set of_number 0) most_fans many_fans (with_fans s (get_or set of_number 0) (get_or set of_parts 0) (get_or set of_weight 0) (get_or set of_board 0)) v
      go false e false true = or-told (length s.switchboards + 1) most_boards many_boards (with_board s (get_or set of_parts 0)) v
      go false e false false = or-told (length s.systems + 1) most_systems many_systems (with_system s set) v

version-wordy : (s : Listed) → InRange s.version → (line : List ℕ) (words : List (List ℕ)) → InRange (wordy s line words).version
unfolding wordy thing
version-wordy s v line [] = v
version-wordy s v line (first ∷ words) = go (eqb r.ended 0) refl
  where
    r : Read
    r = read_line s.version s.begun line

    go : (b : Bool) → eqb r.ended 0 ≡ b
        → InRange (cond b (added (counted s true) first r.set) (told (counted s true) (fault_at (s.lines + 1) r.word r.ended (get_or r.set of_below 0)))).version
    go true e = version-added (counted s true) v first r.set (read-version s.version s.begun line (eqb-true r.ended 0 e))
    go false e = v

version-lines : (lines : List (List ℕ)) (s : Listed) → InRange s.version → InRange (with_lines s lines).version
unfolding with_lines with_line
version-lines [] s v = v
version-lines (line ∷ lines) s v = version-lines lines _ (go (ltb longest_line (length line)))
  where
    go : (b : Bool) → InRange (cond b (told (counted s s.begun) (fault_at (s.lines + 1) [] long_line 0)) (wordy s line (words_of line))).version
    go true = v
    go false = version-wordy s v line (words_of line)

pub version-read : (lines : List (List ℕ)) → bad_version (with_lines nothing lines).version ≡ false
version-read lines =
    let v = version-lines lines nothing (omega arith, omega arith) in
    rw (le-leb 1 (with_lines nothing lines).version v.0, le-leb (with_lines nothing lines).version 3 v.1)
