-- The contract settles the outcome: the answer is the definitions', so any two outcomes that it allows are equal, the answer and the room. Assumes
-- nothing.
use mathlib.Core.Path.{◌≡◌, sym, ◌∙◌}
use mathlib.Core.List.{List}
use Prim.Native.Nat.{ℕ}
use native.Mathlib.Omega.{arith}
use lib.ListN.{length}
use Rattle.rules.specs.declared.Writing.{Writing}
use Rattle.rules.specs.declared.Writing.TheVariants.{Written, Refused}
use Rattle.rules.specs.Writing.{Typed, bytes_for, write_refusal, writing_of, room_written}
use Rattle.rules.proofs.Unless.{unless-some, unless-none}
use Rattle.rules.proofs.Answer.{writes}
use Rattle.writer.specs.Laid.{laid}
use Rattle.writer.specs.Outcome.{Wrote}
use Rattle.writer.proofs.Laying.{laid-front}

module _ {t : Typed} {room : List ℕ} where
  pub writing-is : {after : List ℕ} {r : Writing} → Wrote t room after r → r ≡ writing_of t room
  unfolding writing_of
  writing-is {r} is = (writes r _ _).0 is.answered

  pub same-writing : {after after' : List ℕ} {r r' : Writing} → Wrote t room after r → Wrote t room after' r' → (r ≡ r') × (after ≡ after')
  same-writing p q = (writing-is p ∙ sym (writing-is q), p.written ∙ sym q.written)

  -- an outcome with a refusal, and one with none
  pub refused : {number : ℕ} → number ≡ write_refusal t room → (number ≡ 0 → ⊥) → Wrote t room room (Refused number)
  unfolding room_written
  refused {number} e some =
      let none : write_refusal t room ≡ 0 → ⊥ = λ z. some (e ∙ z) in
      record {
        answered = (e, omega (arith, none));
        written = sym (unless-some _ _ _ none);
      }

  pub written : {after : List ℕ} {size : ℕ} → write_refusal t room ≡ 0 → size ≡ length (bytes_for t) → after ≡ laid 0 (bytes_for t) room
      → Wrote t room after (Written size)
  unfolding room_written
  written none e put = record {
    answered = (none, e);
    written = put ∙ laid-front (bytes_for t) room ∙ sym (unless-none _ _ _ none);
  }
