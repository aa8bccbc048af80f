-- One number carries every answer of the writer: a file is at most 812 bytes long and a refusal at most 21, so the number fits 64 bits and tells the
-- answer. The contract settles the outcome. Assumes nothing.
use mathlib.Core.Path.{◌≡◌, sym, ap, ◌∙◌}
use mathlib.Core.List.{List}
use Prim.Native.Nat.{ℕ, ◌≤◌}
use native.Mathlib.Omega.{arith}
use Rattle.rules.specs.declared.Writing.{Writing}
use Rattle.rules.specs.declared.Writing.TheVariants.{Written, Refused}
use Rattle.rules.specs.Writing.{Typed, write_refusal, writing_of}
use Rattle.rules.proofs.Accepted.{first-le, first-none}
use Rattle.rules.proofs.Unless.{unless-by}
use Rattle.writer.proofs.Writable.{writable, longest}
use Rattle.office.specs.Outcome.{most_refusal, packed_writing, Packable, Filed}

refusal-le : (t : Typed) (room : List ℕ) → write_refusal t room ≤ most_refusal
unfolding write_refusal
refusal-le t room =
    first-le 11 _ _ (omega arith) (first-le 2 _ _ (omega arith) (first-le 5 _ _ (omega arith) (first-le 12 _ _ (omega arith)
    (first-le 20 _ _ (omega arith) (first-le 21 _ _ (omega arith) (first-le 16 _ _ (omega arith) (first-none most_refusal)))))))

pub packable : (t : Typed) (room : List ℕ) → Packable (writing_of t room)
unfolding writing_of
packable t room =
    unless-by Packable _ Refused _ (refusal-le t room)
    (λ none. longest t room (writable t room none))

-- the number tells the answer
pub writing-tells : (r q : Writing) → Packable r → Packable q → packed_writing r ≡ packed_writing q → r ≡ q
writing-tells (Written l) (Written k) s t e = ap Written e
writing-tells (Written l) (Refused n) s t e = absurd (omega arith)
writing-tells (Refused n) (Written l) s t e = absurd (omega arith)
writing-tells (Refused n) (Refused k) s t e = let same : n ≡ k = omega arith in ap Refused same

-- any two outcomes that the contract allows are equal, and equal numbers come of equal answers
pub same-filed : {t : Typed} {room after after' : List ℕ} {r r' : ℕ} → Filed t room after r → Filed t room after' r' → (r ≡ r') × (after ≡ after')
same-filed p q = (p.number ∙ sym q.number, p.written ∙ sym q.written)

pub same_answer : (t t' : Typed) (room room' : List ℕ) → packed_writing (writing_of t room) ≡ packed_writing (writing_of t' room')
    → writing_of t room ≡ writing_of t' room'
same_answer t t' room room' e = writing-tells _ _ (packable t room) (packable t' room') e
