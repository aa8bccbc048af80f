-- What is written where the writer does not refuse: the room's front is the file. And what follows where nothing is told, or something. Assumes nothing.
use mathlib.Core.Path.{◌≡◌, sym, ap, ◌∙◌}
use mathlib.Core.List.{List, [], ◌++◌}
use Prim.Native.Nat.{ℕ, ◌≤◌}
use native.Mathlib.Omega.{arith}
use lib.ListN.{length, take, drop, length-append}
use lib.Seq.{length-take-le, take-append_seam}
use borrow.Author.Tests.{le-ltb}
use Rattle.io.specs.Counts.{IsPrefixLen}
use Rattle.rules.specs.declared.Writing.TheVariants.{Written, Refused}
use Rattle.rules.specs.Writing.{Typed, bytes_for, write_refusal, room_written}
use Rattle.rules.proofs.Unless.{unless-none}
use Rattle.writer.specs.Outcome.{Wrote}
use Rattle.grammar.specs.Text.{nothing, with_lines, last_faults, typed_by}
use Rattle.grammar.proofs.Accepted.{lines-written}
use Rattle.making.specs.Made.{file_room}
use Rattle.making.proofs.Lengths.{listed-short}

module _ (t : Typed) (room after : List ℕ) (size : ℕ) (is : Wrote t room after (Written size)) where
  whole : after ≡ bytes_for t ++ drop (length (bytes_for t)) room
  unfolding room_written
  whole = is.written ∙ unless-none _ _ _ is.answered.0

  all : size ≡ length (bytes_for t)
  all = is.answered.1

  pub written-counts : IsPrefixLen size after
  written-counts =
      let long : size ≤ length after = omega (arith, all, ap length whole, length-append (bytes_for t) (drop (length (bytes_for t)) room)) in
      (long, sym (length-take-le size after long))

  pub file-written : take size after ≡ bytes_for t
  file-written = ap (λ n. take n after) all ∙ ap (take (length (bytes_for t))) whole ∙ take-append_seam (bytes_for t) _

pub never_other : (t : Typed) (room after : List ℕ) → write_refusal t room ≡ 0 → (number : ℕ) → Wrote t room after (Refused number) → ⊥
never_other t room after none number is = omega (arith, is.answered.1, none)

-- lines without a fault are written
pub written-lines : (lines : List (List ℕ)) (room : List ℕ) → (with_lines nothing lines).faults ++ last_faults (with_lines nothing lines) ≡ [] → file_room ≤ length room
    → write_refusal (typed_by (with_lines nothing lines)) room ≡ 0
written-lines lines room none long =
    let t = typed_by (with_lines nothing lines) in
    lines-written lines room none (le-ltb (length room) (length (bytes_for t)) (omega (arith, listed-short lines, long)))
