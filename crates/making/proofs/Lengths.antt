-- How long what is written can be: a file of what is listed fits the longest file's room, and warnings are so many times the longest. Assumes nothing.
use mathlib.Core.Bool.{Bool, true, false, cond}
use mathlib.Core.List.{List, []}
use Prim.Native.Nat.{ℕ, zero, suc, ◌*◌, ◌≤◌}
use native.Mathlib.Omega.{arith}
use lib.ListN.{length, length-append}
use Rattle.rules.specs.declared.Rating.{Rating}
use Rattle.rules.specs.declared.Rating.TheVariants.{Range, Refused}
use Rattle.rules.specs.Boards.{has_boards, boards_read}
use Rattle.rules.specs.File.{most_systems, loading_of}
use Rattle.rules.specs.Writing.{deck_of, bytes_for}
use Rattle.text.proofs.Digits.{decimal-short}
use Rattle.deck.proofs.File.{file-length}
use Rattle.layout.proofs.Versions.{header-bounds}
use Rattle.writer.proofs.Writable.{count-is}
use Rattle.grammar.specs.Text.{Listed, nothing, with_lines, typed_by}
use Rattle.grammar.proofs.Listing.{Kept, kept_read}
use Rattle.grammar.proofs.Accepted.{fives}
use Rattle.making.specs.Lines.{warning_text, warning_room, warnings_text}
use Rattle.making.specs.Made.{file_room}

read-few : (version : ℕ) (l : List ℕ) → length (boards_read version l) ≤ length l
read-few version l = go (has_boards version)
  where
    go : (b : Bool) → length (cond b l []) ≤ length l
    go true = omega arith
    go false = omega arith

-- a deck within what a file has room for
kept-short : (s : Listed) → Kept s → length (bytes_for (typed_by s)) ≤ file_room
kept-short s k =
    let t = typed_by s in
    let fives-long = fives (length s.survival) s.systems in
    let counted : length (deck_of t).systems ≤ most_systems = omega (arith, count-is t, fives-long, k.systems) in
    omega (
      arith,
      file-length (deck_of t),
      header-bounds s.version,
      k.fans,
      k.weighed,
      k.placed,
      k.boards,
      read-few s.version s.boards,
      read-few s.version s.switchboards,
      counted,
    )

pub listed-short : (lines : List (List ℕ)) → length (bytes_for (typed_by (with_lines nothing lines))) ≤ file_room
listed-short lines = kept-short (with_lines nothing lines) (kept_read lines)

pub warning-short : (system : ℕ) (r : Rating) → length (warning_text system r) ≤ warning_room
warning-short system (Range low high) = omega arith
warning-short system (Refused number) = simp length-append (omega (arith, decimal-short system, decimal-short number))

pub warnings-short : (bytes : List ℕ) (m : ℕ) → length (warnings_text bytes m) ≤ warning_room * m
unfolding warnings_text
warnings-short bytes zero = omega arith
warnings-short bytes (suc m) =
    omega (arith, warnings-short bytes m, warning-short (suc m) (loading_of bytes (suc m)), length-append (warnings_text bytes m) (warning_text (suc m) (loading_of bytes (suc m))))
