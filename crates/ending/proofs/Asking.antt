-- What a file asks for, check by check; that it is never more than the longest file; and that where so many bytes of a stream are there as they ask for, or the
-- stream ends before, they are the file at the stream's front: the header's numbers are the stream's. Assumes nothing.
use mathlib.Core.Path.{◌≡◌, refl, sym, ap, ◌∙◌}
use mathlib.Core.Bool.{true, false, cond}
use mathlib.Core.List.{List, ◌++◌}
use Prim.Native.Nat.{ℕ, ◌+◌, ◌≤◌, ◌<◌}
use native.Mathlib.Omega.{arith}
use native.Mathlib.Decide.{dec_le}
use lib.ListN.{length, take, drop, length-append, length-drop}
use lib.Seq.{length-take-le, take_all, get_or-take, take-append_seam, drop-append_seam}
use borrow.Author.Tests.{lt-ltb, le-ltb, not-false}
use Rattle.rules.specs.Boards.{has_boards}
use Rattle.rules.specs.Refusal.{most_boards}
use Rattle.rules.specs.File.{version_field, zero_field, fans_field, count_field, board_count_field, shortest_header, header_length, most_fans, most_systems, number_at, version_in, fans_in, count_in, board_count_in, length_in, bad_start}
use Rattle.rules.specs.Answer.{unless}
use Rattle.rules.proofs.EachKind.{within-true}
use Rattle.rules.proofs.Accepted.{none_first}
use Rattle.rules.proofs.Tests.{by-test}
use Rattle.rules.proofs.Unless.{unless-some, unless-none, unless-by}
use Rattle.deck.specs.Head.{head_of, counts_refusal}
use Rattle.ending.specs.Ending.{asks_by, asks, file_at, rest_at, longest}
use Rattle.layout.proofs.Numbers.{number_same}
use Rattle.layout.proofs.Versions.{header-bounds, header-some, by-boards, fans-bound, without-boards, few-boards}

-- counts that pass
pub record Counted (bytes : List ℕ) : Type 0 where
  pub fans : fans_in bytes ≤ most_fans
  pub systems : count_in bytes ≤ most_systems
  pub boards : board_count_in bytes ≤ most_boards

pub counted : (bytes : List ℕ) → counts_refusal (head_of bytes) ≡ 0 → Counted bytes
unfolding counts_refusal
counted bytes e =
    let size = none_first 1 _ _ e in
    let count = none_first 11 _ _ size.1 in
    let boards = none_first 19 _ _ count.1 in
    record {
      fans = (within-true 1 (fans_in bytes) most_fans (not-false _ size.0)).1;
      systems = (within-true 1 (count_in bytes) most_systems (not-false _ count.0)).1;
      boards = few-boards (version_in bytes) (board_count_in bytes) boards.0 (without-boards (version_in bytes) (number_at 4 bytes board_count_field) 0);
    }

module _ (bytes : List ℕ) where
  abbrev header : ℕ
  header = header_length (version_in bytes)

  pub asks-short : length bytes < shortest_header → asks bytes ≡ shortest_header
  unfolding asks
  asks-short l = rw (lt-ltb (length bytes) shortest_header l)

  pub asks-header : shortest_header ≤ length bytes → length bytes < header → asks bytes ≡ header
  unfolding asks
  asks-header long l = rw (le-ltb (length bytes) shortest_header long, lt-ltb (length bytes) header l)

  -- past the header
  module _ (l : header ≤ length bytes) where
    past : asks bytes ≡ asks_by bytes
    unfolding asks
    past = rw (le-ltb (length bytes) shortest_header (omega (arith, header-bounds (version_in bytes))), le-ltb (length bytes) header l)

    pub asks-start : bad_start bytes ≡ true → asks bytes ≡ header
    asks-start e = past ∙ ap (λ b. cond b header (unless (counts_refusal (head_of bytes)) (λ r. header) (length_in bytes))) e

    pub asks-refused : bad_start bytes ≡ false → (counts_refusal (head_of bytes) ≡ 0 → ⊥) → asks bytes ≡ header
    asks-refused e some =
        past
        ∙ ap (λ b. cond b header (unless (counts_refusal (head_of bytes)) (λ r. header) (length_in bytes))) e
        ∙ unless-some (counts_refusal (head_of bytes)) _ _ some

    pub asks-whole : bad_start bytes ≡ false → counts_refusal (head_of bytes) ≡ 0 → asks bytes ≡ length_in bytes
    asks-whole e none =
        past
        ∙ ap (λ b. cond b header (unless (counts_refusal (head_of bytes)) (λ r. header) (length_in bytes))) e
        ∙ unless-none (counts_refusal (head_of bytes)) _ _ none

-- no file asks for more than the longest has
pub whole-most : (bytes : List ℕ) → counts_refusal (head_of bytes) ≡ 0 → length_in bytes ≤ longest
whole-most bytes e =
    let few = counted bytes e in
    omega (arith, few.fans, few.systems, few.boards, header-bounds (version_in bytes), fans-bound (version_in bytes) (fans_in bytes))

-- a number in the front of a list is the whole's
pub same_number : (bytes : List ℕ) (k width at : ℕ) → at + width ≤ k → number_at width (take k bytes) at ≡ number_at width bytes at
same_number bytes k width at h = number_same {from = 0} (record { byte = λ p past below. get_or-take k bytes p 0 below }) width at (omega arith) h

module _ (stream : List ℕ) (k : ℕ) (within : k ≤ length stream) where
  abbrev front : List ℕ
  front = take k stream

  size : length front ≡ k
  size = length-take-le k stream within

  -- by the header, once it is in the front
  same_by : header_length (version_in front) ≤ k → (header_length (version_in stream) ≤ length stream) × (asks_by front ≡ asks_by stream)
  unfolding counts_refusal
  same_by l =
      let bounds = header-bounds (version_in front) in
      let version-same : version_in front ≡ version_in stream = same_number stream k 2 version_field (omega arith) in
      let fans-same = same_number stream k 2 fans_field (omega arith) in
      let count_same = same_number stream k 2 count_field (omega arith) in
      let zero_same = same_number stream k 2 zero_field (omega arith) in
      let boards-same : board_count_in front ≡ board_count_in stream =
      rw version-same (by-boards (version_in stream) (λ b. cond b (number_at 4 front board_count_field) 0 ≡ cond b (number_at 4 stream board_count_field) 0)
      (λ has. same_number stream k 4 board_count_field (omega (arith, l, header-some (version_in front) (ap has_boards version-same ∙ has))))
      (λ none. refl)) in
      (rw (← version-same) (omega arith), rw (boards-same, version-same, fans-same, count_same, zero_same))

  -- as many bytes as they ask for
  asked-front : asks front ≡ k → asks stream ≡ k
  asked-front e =
      elim (dec_le shortest_header k) [
        | no g ↦ absurd (omega (arith, size, asks-short front (omega (arith, size)), e))
        | yes long ↦
            elim (dec_le (header_length (version_in front)) k) [
              | no g ↦ absurd (omega (arith, size, asks-header front (omega (arith, size)) (omega (arith, size)), e))
              | yes l ↦
                  let same = same_by l in
                  past stream same.0 ∙ sym same.1 ∙ sym (past front (omega (arith, size))) ∙ e
            ]
      ]

-- bytes that are as many as they ask for, whatever stands behind them: they are the file, and that is the rest
module _ (bytes rest : List ℕ) (whole : asks bytes ≡ length bytes) where
  together : asks (bytes ++ rest) ≡ length bytes
  together = asked-front (bytes ++ rest) (length bytes) (omega (arith, length-append bytes rest)) (ap asks (take-append_seam bytes rest) ∙ whole)

  pub front-whole : file_at (bytes ++ rest) ≡ bytes
  front-whole = ap (λ n. take n (bytes ++ rest)) together ∙ take-append_seam bytes rest

  pub rest-whole : rest_at (bytes ++ rest) ≡ rest
  rest-whole = ap (λ n. drop n (bytes ++ rest)) together ∙ drop-append_seam bytes rest

-- fewer, where the stream ends: nothing is behind them
module _ (stream : List ℕ) (l : length stream < asks stream) where
  pub file-short : file_at stream ≡ stream
  file-short = take_all (asks stream) stream (omega arith)

  pub rest-short : length (rest_at stream) ≡ 0
  rest-short = omega (arith, length-drop (asks stream) stream)

-- a file asks for its header at least
header-least : (bytes : List ℕ) → shortest_header ≤ length bytes → header_length (version_in bytes) ≤ asks bytes
header-least bytes long =
    elim (dec_le (header_length (version_in bytes)) (length bytes)) [
      | no g ↦ omega (arith, asks-header bytes long (omega arith))
      | yes l ↦
          let h = header_length (version_in bytes) in
          rw (past bytes l)
          (by-test (λ x. h ≤ x) (bad_start bytes) _ _ (λ e. omega arith)
          (λ e. unless-by (λ x. h ≤ x) (counts_refusal (head_of bytes)) (λ r. h) (length_in bytes) (omega arith) (λ none. omega arith)))
    ]

pub shortest-least : (bytes : List ℕ) → shortest_header ≤ asks bytes
shortest-least bytes =
    elim (dec_le shortest_header (length bytes)) [
      | no g ↦ omega (arith, asks-short bytes (omega arith))
      | yes l ↦ omega (arith, header-least bytes l, header-bounds (version_in bytes))
    ]

-- bytes that were asked for are asked for still when they are there
pub asked-more : (bytes : List ℕ) (j : ℕ) → j ≤ length bytes → length bytes ≤ asks (take j bytes) → length bytes ≤ asks bytes
asked-more bytes j within asked =
    let before = take j bytes in
    let many = size bytes j within in
    elim (dec_le shortest_header j) [
      | no g ↦ omega (arith, asks-short before (omega (arith, many)), shortest-least bytes)
      | yes long ↦
          elim (dec_le (header_length (version_in before)) j) [
            | no g ↦
                let same : version_in before ≡ version_in bytes = same_number bytes j 2 version_field (omega arith) in
                let header = rw same at (asks-header before (omega (arith, many)) (omega (arith, many))) in
                omega (arith, header, header-least bytes (omega arith))
            | yes l ↦
                let same = same_by bytes j within l in
                let is : asks bytes ≡ asks before = past bytes same.0 ∙ sym same.1 ∙ sym (past before (omega (arith, many))) in
                omega (arith, is)
          ]
    ]
