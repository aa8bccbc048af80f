-- The contract settles the outcome: the answer is the definitions', so any two outcomes that it allows are equal, the answer and both rooms. Assumes nothing.
use mathlib.Core.Path.{◌≡◌, refl, sym, ◌∙◌}
use mathlib.Core.Bool.{Bool, true, false, ◌||◌}
use mathlib.Core.List.{List, []}
use Prim.Native.Nat.{ℕ, ◌*◌, ◌≤◌, ◌<◌}
use native.Mathlib.Decide.{dec_lt}
use native.Mathlib.Omega.{arith}
use lib.Dec.{ltb}
use lib.ListN.{length}
use borrow.Author.Tests.{lt-ltb, le-ltb}
use Rattle.rules.specs.declared.Mending.{Mending}
use Rattle.rules.specs.declared.Mending.TheVariants as mending
use Rattle.rules.specs.File.{length_in}
use Rattle.rules.specs.Mending.{mended, per_change, changes_in, changed_in, cut_from, beyond_mending, mend_refusal, mending_of, room_mended, list_mended}
use Rattle.rules.proofs.Unless.{unless-some, unless-none, after_none, after-some}
use Rattle.rules.proofs.Answer.{mends}
use Rattle.rules.proofs.Accepted.{first-of, first-after}
use Rattle.deck.proofs.Checks.{none_left}
use Rattle.writer.specs.Laid.{laid}
use Rattle.writer.proofs.Laying.{laid-front}
use Rattle.mend.specs.Outcome.{longest_header, Mended}
use Rattle.mend.proofs.Mendable.{mendable, length_most}
use Rattle.mend.proofs.Mended.{mended-length}
use Rattle.mend.proofs.Heading.{changed-most}

module _ {bytes room list : List ℕ} where
  pub mending-is : {room_after listAfter : List ℕ} {r : Mending} → Mended bytes room list room_after listAfter r → r ≡ mending_of bytes room list
  unfolding mending_of
  mending-is {r} is = (mends r _ _).0 is.answered

  pub same-mending : {room_after listAfter roomAfter' listAfter' : List ℕ} {r r' : Mending} → Mended bytes room list room_after listAfter r
      → Mended bytes room list roomAfter' listAfter' r' → (r ≡ r') × (room_after ≡ roomAfter') × (listAfter ≡ listAfter')
  same-mending p q = (mending-is p ∙ sym (mending-is q), p.written ∙ sym q.written, p.told ∙ sym q.told)

  -- an outcome with a refusal: of the file, of a room or of the list; and one with none
  refused : {number : ℕ} → number ≡ mend_refusal bytes room list → (number ≡ 0 → ⊥) → Mended bytes room list room list (mending.Refused number)
  unfolding room_mended list_mended
  refused {number} e some =
      let none : mend_refusal bytes room list ≡ 0 → ⊥ = λ z. some (e ∙ z) in
      record { answered = (e, omega (arith, none)); written = sym (unless-some _ _ _ none); told = sym (unless-some _ _ _ none) }

  pub refused-file : {number : ℕ} → number ≡ beyond_mending bytes → (number ≡ 0 → ⊥) → Mended bytes room list room list (mending.Refused number)
  unfolding mend_refusal
  refused-file e some = refused (e ∙ sym (after-some _ _ (λ z. some (e ∙ z)))) some

  module _ (none : beyond_mending bytes ≡ 0) where
    refused-short : (ltb (length room) (length (mended bytes)) || ltb (length list) (per_change * changed_in bytes)) ≡ true
        → Mended bytes room list room list (mending.Refused 16)
    unfolding mend_refusal
    refused-short short = refused (sym (after_none _ _ none ∙ first-of 16 _ _ short)) (λ z. omega (arith, z))

    pub refused-room : length room < length_in bytes → Mended bytes room list room list (mending.Refused 16)
    refused-room h = refused-short (rw (lt-ltb (length room) (length (mended bytes)) (omega (arith, mended-length bytes none))))

    pub refused-list : length list < per_change * changed_in bytes → Mended bytes room list room list (mending.Refused 16)
    refused-list h = refused-short (rw (lt-ltb (length list) (per_change * changed_in bytes) h) (either (ltb (length room) (length (mended bytes)))))
      where
        either : (b : Bool) → b || true ≡ true
        either true = refl
        either false = refl

    pub both-mended : {room_after listAfter : List ℕ} {size changed cut : ℕ} → length_in bytes ≤ length room → per_change * changed_in bytes ≤ length list
        → size ≡ length_in bytes → changed ≡ changed_in bytes → cut ≡ cut_from bytes
        → room_after ≡ laid 0 (mended bytes) room → listAfter ≡ laid 0 (changes_in bytes) list → Mended bytes room list room_after listAfter (mending.Mended size changed cut)
    unfolding mend_refusal room_mended list_mended
    both-mended room_fits list-fits size changed cut written told =
        let fits : (ltb (length room) (length (mended bytes)) || ltb (length list) (per_change * changed_in bytes)) ≡ false =
        rw (le-ltb (length room) (length (mended bytes)) (omega (arith, mended-length bytes none)), le-ltb (length list) (per_change * changed_in bytes) list-fits)
        in
        let accepted : mend_refusal bytes room list ≡ 0 = after_none _ _ none ∙ first-after 16 _ [] fits ∙ none_left in
        record {
          answered = (accepted, size ∙ sym (mended-length bytes none), changed, cut);
          written = written ∙ laid-front (mended bytes) room ∙ sym (unless-none _ _ _ accepted);
          told = told ∙ laid-front (changes_in bytes) list ∙ sym (unless-none _ _ _ accepted);
        }

-- rooms for the longest file and for a change of every byte of the longest header are never too short
pub rooms-enough : (bytes room list : List ℕ) → 812 ≤ length room → per_change * longest_header ≤ length list → mend_refusal bytes room list ≡ beyond_mending bytes
unfolding mend_refusal
rooms-enough bytes room list large listed =
    elim (dec_lt 0 (beyond_mending bytes)) [
      | no few ↦
          let none : beyond_mending bytes ≡ 0 = omega arith in
          let fits : (ltb (length room) (length (mended bytes)) || ltb (length list) (per_change * changed_in bytes)) ≡ false =
          rw (
            le-ltb (length room) (length (mended bytes)) (omega (arith, mended-length bytes none, length_most bytes (mendable bytes none))),
            le-ltb (length list) (per_change * changed_in bytes) (omega (arith, changed-most bytes none)),
          )
          in
          after_none _ _ none ∙ first-after 16 _ [] fits ∙ none_left ∙ sym none
      | yes some ↦ after-some _ _ (λ z. omega arith)
    ]
