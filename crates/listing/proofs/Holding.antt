-- What a listing holds where something is added, or told for want of room. Assumes nothing.
use mathlib.Core.Path.{◌≡◌, sym, ap, ap₂, ◌∙◌}
use mathlib.Core.Bool.{true}
use mathlib.Core.List.{List, [], ◌∷◌}
use Prim.Native.Nat.{ℕ, ◌+◌, ◌≤◌, ◌<◌}
use lib.ListN.{length, get_or}
use borrow.Author.Tests.{eq-eqb, ne_eqb, lt-ltb, le-ltb}
use Rattle.grammar.specs.declared.line.Read.{Read as LineRead}
use Rattle.grammar.specs.Words.{words_of}
use Rattle.grammar.specs.Grammar.{of_below}
use Rattle.grammar.specs.Stands.{part}
use Rattle.grammar.specs.Line.{Read, read_line}
use Rattle.grammar.specs.Reads.{Reads, Within}
use Rattle.grammar.specs.Text.{Listed, longest_line, long_line, fault_at, told, counted, or_told, added, thing, wordy, with_line}
use Rattle.grammar.proofs.Bounds.{within-line}
use Rattle.listing.specs.declared.Listing.{Listing}
use Rattle.listing.specs.Holds.{Holds, Steps}

-- a step under another name
pub step-as : {n : ℕ} {before after : Listing} {out then : List ℕ} {step same : Listed → Listed} → Steps n before out after then step → ((s : Listed) → same s ≡ step s)
    → Steps n before out after then same
step-as steps is = record { sane = steps.sane; few = steps.few; holds = λ s h. rw (is s) (steps.holds s h) }

module _ {l r : Listing} {out then : List ℕ} (s : Listed) (h : Holds l s out) (more most wanted : ℕ) (first : List ℕ) (next : Listed) where
  pub none_left : most < more → Steps 0 l out r then (λ x. told x (fault_at l.lines first wanted 0)) → Holds r (or_told more most wanted first s next) then
  none_left q e = rw (lt-ltb most more q) (rw h.lines at (e.holds s h))

  pub some_left : more ≤ most → Holds r next then → Holds r (or_told more most wanted first s next) then
  some_left q e = rw (le-ltb most more q) e

-- a line with words, by how its reading ends
module _ (l : Listing) (line : List ℕ) (read : LineRead) (reads : Reads line read (read_line l.version l.begun line)) where
  pub within-read : Within read.set
  within-read = rw reads.set (within-line l.version l.begun line)

  module _ {out : List ℕ} (s : Listed) (h : Holds l s out) where
    abbrev right : Read
    right = read_line s.version s.begun line

    same : read_line l.version l.begun line ≡ right
    same = ap₂ (λ v b. read_line v b line) h.version h.begun

    ends : read.ended ≡ right.ended
    ends = reads.ended ∙ ap (λ x. x.ended) same

    pub with-fault : {r : Listing} {then : List ℕ} (first : List ℕ) (n : ℕ) → n ≡ s.lines + 1 → (read.ended ≡ 0 → ⊥)
        → Holds r (told (counted s true) (fault_at n (part line read.from read.upto) read.ended (get_or read.set of_below 0))) then
        → Holds r (thing (counted s true) first right) then
    unfolding thing
    with-fault first n is some e =
        let e1 = reads.word ∙ ap (λ x. x.word) same in
        let e2 = reads.set ∙ ap (λ x. x.set) same in
        rw (ne_eqb right.ended 0 (λ q. some (ends ∙ q)), ← ends, ← e1, ← e2) (rw is at e)

    pub with-thing : {r : Listing} {then : List ℕ} (first : List ℕ) → read.ended ≡ 0 → Holds r (added (counted s true) first read.set) then → Holds r (thing (counted s true) first right) then
    unfolding thing
    with-thing first z e =
        let e2 = reads.set ∙ ap (λ x. x.set) same in
        rw (eq-eqb right.ended 0 (sym ends ∙ z), ← e2) e

-- a line that is too long, one without words, one with words
module _ {r : Listing} {then : List ℕ} (s : Listed) (line : List ℕ) where
  pub long-line : longest_line < length line → Holds r (told (counted s s.begun) (fault_at (s.lines + 1) [] long_line 0)) then → Holds r (with_line s line) then
  unfolding with_line
  long-line l e = rw (lt-ltb longest_line (length line) l) e

  module _ (l : length line ≤ longest_line) where
    pub blank-line : words_of line ≡ [] → Holds r (counted s s.begun) then → Holds r (with_line s line) then
    unfolding with_line wordy
    blank-line w e = rw (le-ltb longest_line (length line) l, w) e

    pub wordy-line : (first : List ℕ) (words : List (List ℕ)) → words_of line ≡ first ∷ words
        → Holds r (thing (counted s true) first (read_line s.version s.begun line)) then → Holds r (with_line s line) then
    unfolding with_line wordy
    wordy-line first words w e = rw (le-ltb longest_line (length line) l, w) e
