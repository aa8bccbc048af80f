-- A text that is put where it fits is added; texts added one after the other are one text. Assumes nothing.
use mathlib.Core.Path.{◌≡◌, sym, ap, ◌∙◌}
use mathlib.Core.List.{List, [], ◌++◌, append_assoc, append-nil}
use Prim.Native.Nat.{ℕ, ◌+◌, ◌-◌, ◌≤◌}
use native.Mathlib.Omega.{arith}
use lib.IntN.{ℤ}
use lib.ListN.{length, take, length-append, length-take}
use lib.Seq.{paste, length-paste, take-paste, take_all}
use borrow.Author.Tests.{le-leb}
use Rattle.io.specs.Counts.{IsPrefixLen}
use Rattle.text.specs.Decimal.{decimal, signed}
use Rattle.text.specs.Lines.{named, named_room, pair_text, pair_room, signed_named, signed_pair, signed_room, signed_pair_room}
use Rattle.text.specs.Put.{Put, PutNamed}
use Rattle.text.specs.Added.{Added}
use Rattle.text.proofs.Digits.{decimal-short, signed-short}

module _ {out after : List ℕ} {at end : ℕ} where
  pub put-added : {text : List ℕ} → at + length text ≤ length out → Put out at text after end → Added text out at after end
  put-added {text} room put =
      let fit = le-leb (length text) (length out - at) (omega arith) in
      let ends : end ≡ at + length text = rw fit at put.ends in
      let stands : after ≡ paste out at text (length text) = rw fit at put.stands in
      record {
        ends = ends;
        stands =
            ap (λ e. take e after) ends
            ∙ ap (take (at + length text)) stands
            ∙ take-paste out at text (length text) (omega arith) (omega arith)
            ∙ ap (λ t. take at out ++ t) (take_all (length text) text (omega arith));
      }

  put-length : {text : List ℕ} → at + length text ≤ length out → Put out at text after end → length after ≡ length out
  put-length {text} room put =
      let fit = le-leb (length text) (length out - at) (omega arith) in
      ap length (rw fit at put.stands) ∙ length-paste out at text (length text) room (omega arith)

  -- how far a named number reaches, and two of them
  pub named-reach : (name : List ℕ) (n : ℕ) → Added (named name n) out at after end → end ≤ at + named_room name
  named-reach name n added = omega (arith, added.ends, length-append name (decimal n), decimal-short n)

  pub pair-reach : (first : List ℕ) (a : ℕ) (second : List ℕ) (b : ℕ) → Added (pair_text first a second b) out at after end → end ≤ at + pair_room first second
  pair-reach first a second b added =
      let lengths = length-append (named first a) (named second b) in
      let one = length-append first (decimal a) in
      let two = length-append second (decimal b) in
      omega (arith, added.ends, lengths, one, two, decimal-short a, decimal-short b)

  -- and of signed ones
  pub signed-reach : (name : List ℕ) (z : ℤ) → Added (signed_named name z) out at after end → end ≤ at + signed_room name
  signed-reach name z added = omega (arith, added.ends, length-append name (signed z), signed-short z)

  pub signed-pair-reach : (first : List ℕ) (a : ℤ) (second : List ℕ) (b : ℤ) → Added (signed_pair first a second b) out at after end
      → end ≤ at + signed_pair_room first second
  signed-pair-reach first a second b added =
      let lengths = length-append (signed_named first a) (signed_named second b) in
      let one = length-append first (signed a) in
      let two = length-append second (signed b) in
      omega (arith, added.ends, lengths, one, two, signed-short a, signed-short b)

  pub added_more : {text more last : List ℕ} {stop : ℕ} → Added text out at after end → Added more after end last stop → Added (text ++ more) out at last stop
  added_more {text} {more} one two =
      record {
        ends = omega (arith, one.ends, two.ends, length-append text more);
        stands = two.stands ∙ ap (λ t. t ++ more) one.stands ∙ append_assoc (take at out) text more;
      }

pub named-added : {out after : List ℕ} {at end : ℕ} {name : List ℕ} {n : ℕ} → at + named_room name ≤ length out → PutNamed out at name n after end
    → Added (named name n) out at after end
named-added {n} room put =
    let one = put-added (omega arith) put.name_put in
    let same = put-length (omega arith) put.name_put in
    added_more one (put-added (omega (arith, one.ends, same, decimal-short n)) put.number_put)

pub none-added : (out : List ℕ) (at : ℕ) → Added [] out at out at
none-added out at = record { ends = omega arith; stands = sym (append-nil (take at out)) }

-- what is added at the front of a buffer counts its bytes
pub added-counts : {words out after : List ℕ} {end : ℕ} → Added words out 0 after end → IsPrefixLen end after
added-counts {after} {end} added =
    let counted : end ≡ length (take end after) = omega (arith, added.ends, ap length added.stands) in
    (omega (arith, length-take end after), counted)
