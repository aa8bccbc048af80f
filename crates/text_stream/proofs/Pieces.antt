-- What a piece does to what is held, a law for each way through `feed` and `finish`: the bytes up to the first newline go on with the line at hand, the lines that end
-- in the piece follow, and its last bytes are a line at hand. Assumes nothing.
use mathlib.Core.Path.{◌≡◌, refl, sym, ap, ◌∙◌}
use mathlib.Core.List.{List, [], ◌∷◌, ◌++◌, append_assoc, append-nil}
use Prim.Native.Nat.{ℕ, suc, ◌+◌, ◌-◌, ◌≤◌, ◌<◌}
use native.Mathlib.Numerals.{add-one}
use native.Mathlib.Omega.{arith}
use lib.ListN.{length, take, drop, length-append}
use lib.Seq.{take_all, split_at, take-length, length-take-le, take-append-add}
use Rattle.text.specs.Added.{Added}
use Rattle.grammar.specs.Words.{newline, lines_on, lines_of}
use Rattle.grammar.specs.Stands.{part}
use Rattle.grammar.specs.Text.{Listed, with_line, with_lines, listed}
use Rattle.listing.specs.declared.Listing.{Listing}
use Rattle.listing.specs.declared.Reached.{Reached}
use Rattle.listing.specs.Holds.{Steps, ended, HoldsText}
use Rattle.listing.specs.Lines.{OneLine, LineEnds, ReadLines}
use Rattle.listing.proofs.Pieces.{cut-long}
use Rattle.listing.proofs.Reading.{lines_more}
use Rattle.text_stream.specs.declared.Feeding.{Feeding}
use Rattle.text_stream.specs.Feeding.{line_room, part_of, HoldsBytes}

-- bytes that are kept, all of them or as many as there is room for
module _ (line more : List ℕ) (kept : ℕ) (low : kept ≤ length line) (within : kept ≤ line_room) where
  front : length (take kept line) ≡ kept
  front = length-take-le kept line low

  pub kept-all : {then : List ℕ} {r : ℕ} → length more ≤ line_room - kept → Added more line kept then r → (r ≤ line_room) × (take r then ≡ take line_room (take kept line ++ more))
  kept-all short added = (
    omega (arith, added.ends),
    added.stands ∙ sym (take_all line_room (take kept line ++ more) (omega (arith, length-append (take kept line) more, front))),
  )

  pub kept-cut : {then : List ℕ} {r : ℕ} → line_room - kept < length more → Added (take (line_room - kept) more) line kept then r → (r ≤ line_room) × (take r then ≡ take line_room (take kept line ++ more))
  kept-cut long added =
      let left = line_room - kept in
      let all : line_room ≡ length (take kept line) + left = omega (arith, front) in (
        omega (arith, added.ends, length-take-le left more (omega arith)),
        added.stands ∙ sym (ap (λ n. take n (take kept line ++ more)) all ∙ take-append-add (take kept line) more left),
      )

-- the first line of a piece
one-front : (piece : List ℕ) (n : ℕ) → LineEnds piece 0 n → OneLine (take n piece)
one-front piece n e so_far rest =
    let same : part piece 0 n ≡ take n piece = ap (λ m. take m piece) (let z : n - 0 ≡ n = omega arith in z) in
    ap (λ x. lines_on so_far (x ++ rest)) (sym same) ∙ e.one so_far rest ∙ ap (λ x. lines_on (so_far ++ x) rest) same

cut : (s : Listed) (line rest : List ℕ) → with_lines s (lines_on line rest) ≡ with_lines s (lines_on (take line_room line) rest)
cut s line rest = cut-long s line rest line_room (omega arith)

module _ {f : Feeding} {line out bytes : List ℕ} (h : HoldsBytes f line out bytes) (piece : List ℕ) where
  -- the piece is within one line
  pub fed-part : LineEnds piece 0 (length piece) → (kept : ℕ) (then : List ℕ) → kept ≤ line_room → take kept then ≡ take line_room (part_of f line ++ take (length piece) piece)
      → HoldsBytes (record { listing = f.listing; kept = kept }) then out (bytes ++ piece)
  fed-part e kept then within is = record {
    state = h.state;
    holds = h.holds;
    within = within;
    on = λ rest.
        let all = take-length piece in
        let one : lines_on (part_of f line) (piece ++ rest) ≡ lines_on (part_of f line ++ piece) rest = rw all at (one-front piece (length piece) e (part_of f line) rest) in
        ap listed (append_assoc bytes piece rest)
        ∙ h.on (piece ++ rest)
        ∙ ap (with_lines h.state) one
        ∙ cut h.state (part_of f line ++ piece) rest
        ∙ ap (λ x. with_lines h.state (lines_on x rest)) (sym (is ∙ ap (λ x. take line_room (part_of f line ++ x)) all));
  }

  -- a line ends in it
  module _ (first : ℕ) (e : LineEnds piece 0 first) (more : first < length piece) (full : List ℕ)
      (joined : full ≡ take line_room (part_of f line ++ take first piece)) where
    whole : piece ≡ take first piece ++ newline ∷ drop (first + 1) piece
    whole = split_at piece first 0 more ∙ ap (λ b. take first piece ++ b ∷ drop (suc first) piece) (e.ends more) ∙ ap (λ n. take first piece ++ newline ∷ drop n piece) (sym (add-one first))

    -- the line that ends is read, and what follows it
    behind : (rest : List ℕ) → listed ((bytes ++ piece) ++ rest) ≡ with_lines (with_line h.state full) (lines_of (drop (first + 1) piece ++ rest))
    unfolding lines_on with_lines
    behind rest =
        let s = h.state in
        let after = drop (first + 1) piece ++ rest in
        ap listed (append_assoc bytes piece rest ∙ ap (λ x. bytes ++ (x ++ rest)) whole ∙ ap (λ x. bytes ++ x) (append_assoc (take first piece) (newline ∷ drop (first + 1) piece) rest))
        ∙ h.on (take first piece ++ newline ∷ after)
        ∙ ap (with_lines s) (one-front piece first e (part_of f line) (newline ∷ after))
        ∙ cut s (part_of f line ++ take first piece) (newline ∷ after)
        ∙ ap (λ x. with_lines s (lines_on x (newline ∷ after))) (sym joined)

    module _ {across : Listing} {said : List ℕ} (step : Steps 1 f.listing out across said (λ s. with_line s full))
        (tail : List ℕ) (tailed : tail ≡ drop (first + 1) piece) {reached : Reached} {told : List ℕ} (read : ReadLines tail across said reached told)
        (last : ℕ) (then left : List ℕ) (within : last ≤ line_room) (lasts : left ≡ drop reached.at tail) (is : take last then ≡ take line_room left) where
      pub fed-lines : HoldsBytes (record { listing = reached.listing; kept = last }) then told (bytes ++ piece)
      fed-lines =
          let next = with_line h.state full in
          let done = lines_of (take reached.at tail) in
          record {
            state = with_lines next done;
            holds = read.steps.holds next (step.holds h.state h.holds);
            within = within;
            on = λ rest.
                behind rest
                ∙ ap (λ x. with_lines next (lines_of (x ++ rest))) (sym tailed)
                ∙ ap (with_lines next) (read.end.on rest)
                ∙ lines_more next done (lines_on (drop reached.at tail) rest)
                ∙ ap (λ x. with_lines (with_lines next done) (lines_on x rest)) (sym lasts)
                ∙ cut (with_lines next done) left rest
                ∙ ap (λ x. with_lines (with_lines next done) (lines_on x rest)) (sym is);
          }

-- the end: nothing is left, or a line
nothing_left : (s : Listed) → with_lines s (lines_on [] []) ≡ s
unfolding lines_on with_lines
nothing_left s = refl

one_left : (s : Listed) (x : List ℕ) → 0 < length x → with_lines s (lines_on x []) ≡ with_line s x
unfolding lines_on with_lines
one_left s [] l = absurd (omega arith)
one_left s (b ∷ x) l = refl

module _ {f : Feeding} {line out bytes : List ℕ} (h : HoldsBytes f line out bytes) where
  all : listed bytes ≡ with_lines h.state (lines_on (part_of f line) [])
  all = ap listed (sym (append-nil bytes)) ∙ h.on []

  pub ends-none : f.kept ≡ 0 → {after : Listing} {then : List ℕ} → Steps 0 f.listing out after then ended → HoldsText after bytes then
  ends-none none step =
      let is : listed bytes ≡ h.state = all ∙ ap (λ n. with_lines h.state (lines_on (take n line) [])) none ∙ nothing_left h.state in
      rw is (step.holds h.state h.holds)

  pub ends-line : 0 < length (part_of f line) → {read after : Listing} {said then : List ℕ} → Steps 1 f.listing out read said (λ s. with_line s (part_of f line))
      → Steps 0 read said after then ended → HoldsText after bytes then
  ends-line some Line-read step =
      let is : listed bytes ≡ with_line h.state (part_of f line) = all ∙ one_left h.state (part_of f line) some in
      rw is (step.holds (with_line h.state (part_of f line)) (Line-read.holds h.state h.holds))
