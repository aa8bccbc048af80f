-- Request 01: "What it writes, the reader reads back as the same deck, and an accepted file written again gives the same bytes." The bytes are the
-- layout's, so the layout's two theorems serve. Assumes nothing.
use mathlib.Core.Path.{◌≡◌, ap, ◌∙◌}
use mathlib.Core.List.{List, ◌++◌}
use Prim.Native.Nat.{ℕ, ◌%◌, ◌^◌, ◌≤◌}
use native.Mathlib.Omega.{arith}
use lib.ListN.{length, take, drop}
use lib.Seq.{take-append_seam}
use borrow.Author.Tests.{le-ltb, le-leb, eq-eqb}
use Rattle.rules.specs.declared.Writing.{Writing}
use Rattle.rules.specs.declared.Writing.TheVariants.{Written}
use Rattle.rules.specs.Refusal.{first_of}
use Rattle.rules.specs.File.{Deck, per_system, most_systems, file_of, deck_in, file_refusal}
use Rattle.rules.specs.Writing.{Typed, deck_of, bytes_for, typed_from, write_refusal, writing_of, room_written}
use Rattle.rules.proofs.Unless.{unless-none}
use Rattle.std.proofs.Common.{Result, Ok}
use Rattle.rules.specs.declared.refusal.Refusal.{Refusal}
use Rattle.deck.specs.declared.Head.{Head}
use Rattle.deck.specs.Head.{head_for}
use Rattle.deck.specs.Outcome.{Opens}
use Rattle.layout.specs.Fits.{Under, Bytes}
use Rattle.deck.specs.Bounds.{Bounds}
use Rattle.deck.proofs.File.{deck-back, file-back, deck-bounds}
use Rattle.deck.proofs.Outcome.{open-file}
use Rattle.deck.proofs.Systems.{numbers-length, listed-numbers, listed-systems}
use Rattle.writer.specs.Outcome.{Wrote}
use Rattle.layout.proofs.Versions.{under-read}
use Rattle.writer.proofs.Writable.{count, count-is, counted-read, placed-read, read_twice, writable}
use Rattle.writer.proofs.Outcome.{writing-is}

-- numbers as their fields hold them: lists of u32 and u16
pub record Typable (t : Typed) : Type 0 where
  pub survival_fits : Under (2 ^ 32) t.survival
  pub weights_fit : Under (2 ^ 16) t.weights
  pub boards_fit : Under (2 ^ 32) t.switchboards
  pub numbers_fit : Under (2 ^ 16) t.numbers

module _ (t : Typed) (room : List ℕ) (small : Typable t) (none : write_refusal t room ≡ 0) where
  typed-bounds : Bounds (deck_of t)
  typed-bounds =
      let w = writable t room none in
      let v = t.version in
      let n = length t.survival in
      record {
        versioned = w.versioned;
        some_fan = w.some_fan;
        most_fans = w.most_fans;
        weighed = w.weighed;
        some_system = omega (arith, count-is t, w.some_system);
        most-systems = omega (arith, count-is t, w.most-systems);
        counted = counted-read v n t.boards t.switchboards w.counted w.placed;
        placed = placed-read v n t.boards t.switchboards w.counted w.placed;
        own_boards = read_twice v t.boards;
        own_numbers = read_twice v t.switchboards;
        survival_fits = small.survival_fits;
        weights_fit = small.weights_fit;
        boards_fit = under-read v (omega arith) small.boards_fit;
        systems_fit = rw (listed-numbers t.numbers w.whole) small.numbers_fit;
      }

  -- the room's front is the file
  front : (after : List ℕ) (r : Writing) → Wrote t room after r → take (length (bytes_for t)) after ≡ bytes_for t
  unfolding room_written
  front after r is = ap (take (length (bytes_for t))) (is.written ∙ unless-none _ _ _ none) ∙ take-append_seam (bytes_for t) _

  -- what is written, the reader reads back as the deck that was typed
  pub reads-back : deck_in (bytes_for t) ≡ deck_of t
  reads-back = deck-back (deck_of t) typed-bounds

  -- and of what opening the room's front answers: it has that deck's head, and that deck is what every function over its bytes reads
  pub written_read : (after : List ℕ) (r : Writing) → Wrote t room after r → (opened : Result Head Refusal) → Opens (take (length (bytes_for t)) after) opened
      → (opened ≡ Ok (head_for (deck_of t))) × (deck_in (take (length (bytes_for t)) after) ≡ deck_of t)
  written_read after r is opened opens = (
    open-file (deck_of t) typed-bounds opened (rw (front after r is) at opens),
    ap deck_in (front after r is) ∙ reads-back,
  )

-- a deck typed as it stands is that deck, and not refused where the room is long enough
typed-back : (d : Deck) → Bounds d → deck_of (typed_from d) ≡ d
typed-back d ok = λ x. record {
  version = d.version;
  survival = d.survival;
  weights = d.weights;
  boards = ok.own_boards x;
  switchboards = ok.own_numbers x;
  systems = listed-systems d.systems x;
}

not-refused : (d : Deck) (room : List ℕ) → Bounds d → length (file_of d) ≤ length room → write_refusal (typed_from d) room ≡ 0
unfolding write_refusal first_of
not-refused d room ok fits =
    let t = typed_from d in
    let m : count t ≡ length d.systems = omega (arith, numbers-length d.systems) in
    let whole : length t.numbers % per_system ≡ 0 = omega (arith, numbers-length d.systems) in
    simp (
      ok.versioned,
      le-leb _ _ ok.some_fan,
      le-leb _ _ ok.most_fans,
      eq-eqb _ _ ok.weighed,
      eq-eqb _ _ whole,
      le-leb 1 (count t) (omega (arith, m, ok.some_system)),
      le-leb (count t) most_systems (omega (arith, m, ok.most-systems)),
      ok.counted,
      ok.placed,
      le-ltb (length room) (length (bytes_for t)) (rw (typed-back d ok) fits),
    )

-- an accepted file, read and written again
module _ (bytes room : List ℕ) (small : Bytes bytes) (accepted : file_refusal bytes ≡ 0) (fits : length bytes ≤ length room) where
  abbrev again : Typed
  again = typed_from (deck_in bytes)

  pub same_bytes : bytes_for again ≡ bytes
  same_bytes = ap file_of (typed-back (deck_in bytes) (deck-bounds bytes small accepted)) ∙ file-back bytes small accepted

  again-accepted : write_refusal again room ≡ 0
  again-accepted = not-refused (deck_in bytes) room (deck-bounds bytes small accepted) (rw (file-back bytes small accepted) fits)

  pub written-again : (after : List ℕ) (r : Writing) → Wrote again room after r → (r ≡ Written (length bytes)) × (after ≡ bytes ++ drop (length bytes) room)
  unfolding writing_of room_written
  written-again after r is = (
    writing-is is ∙ unless-none _ _ _ again-accepted ∙ ap (λ xs. Written (length xs)) same_bytes,
    is.written ∙ unless-none _ _ _ again-accepted ∙ ap (λ xs. xs ++ drop (length xs) room) same_bytes,
  )
