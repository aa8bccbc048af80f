-- Any two outcomes that opening a file allows are equal; an outcome without a refusal is the file's head, which is that of the deck that the file holds. Assumes nothing.
use mathlib.Core.Path.{◌≡◌, sym, ap, ◌∙◌}
use mathlib.Core.List.{List}
use Prim.Native.Nat.{ℕ}
use Rattle.std.proofs.Common.{Result, Ok, Err}
use Rattle.rules.specs.declared.refusal.Refusal.{Refusal}
use Rattle.rules.specs.Refusal.{number}
use Rattle.rules.specs.File.{Deck, version_in, fans_in, count_in, board_count_in, system_in, deck_in, file_of, file_refusal}
use Rattle.rules.proofs.Lists.{below_length}
use Rattle.rules.proofs.Numbers.{number-some, same-number}
use Rattle.deck.specs.declared.Head.{Head}
use Rattle.deck.specs.Head.{head_of, head_for, Says}
use Rattle.deck.specs.Outcome.{Opens, Headed}
use Rattle.deck.specs.Bounds.{Bounds}
use Rattle.deck.proofs.File.{file-accepted, deck-back}

-- what a head says, number by number, is the file's head
pub head-is : {bytes : List ℕ} {head : Head} → Says bytes head → head ≡ head_of bytes
head-is s = λ x. record { version = s.version x; fans = s.fans x; systems = s.systems x; boards = s.boards x }

module _ {bytes : List ℕ} where
  -- opened as a refusal, and as a head
  pub opens-refused : (r : Refusal) → number r ≡ file_refusal bytes → Opens bytes (Err r)
  opens-refused r e = record { refusal = e; head = tt }

  pub opens-head : {head : Head} → Says bytes head → file_refusal bytes ≡ 0 → Opens bytes (Ok head)
  opens-head s none = record { refusal = sym none; head = head-is s }

  -- and what is known of a file that was opened as a head
  module _ {head : Head} (opens : Opens bytes (Ok head)) where
    pub opened-accepted : file_refusal bytes ≡ 0
    opened-accepted = sym opens.refusal

    pub opened-headed : Headed bytes head
    opened-headed = record {
      accepted = opened-accepted;
      says = record {
        version = ap (λ h. h.version) opens.head;
        fans = ap (λ h. h.fans) opens.head;
        systems = ap (λ h. h.systems) opens.head;
        boards = ap (λ h. h.boards) opens.head;
      };
    }

  -- and of one that was opened as a refusal
  pub opened-refused : {r : Refusal} → Opens bytes (Err r) → file_refusal bytes ≡ 0 → ⊥
  opened-refused {r} opens none = number-some r (opens.refusal ∙ none)

pub same-opened : {bytes : List ℕ} (r q : Result Head Refusal) → Opens bytes r → Opens bytes q → r ≡ q
same-opened (Ok a) (Ok b) h k = ap Ok (h.head ∙ sym k.head)
same-opened (Ok a) (Err e) h k = absurd (opened-refused k (opened-accepted h))
same-opened (Err e) (Ok a) h k = absurd (opened-refused h (opened-accepted k))
same-opened (Err e) (Err f) h k = ap Err (same-number e f (h.refusal ∙ sym k.refusal))

-- a file's head is its deck's
head-deck : (bytes : List ℕ) → head_of bytes ≡ head_for (deck_in bytes)
unfolding deck_in
head-deck bytes =
    let fans = sym (below_length (fans_in bytes) _) in
    let systems = sym (below_length (count_in bytes) (system_in bytes)) in
    let boards = sym (below_length (board_count_in bytes) _) in
    λ x. record { version = version_in bytes; fans = fans x; systems = systems x; boards = boards x }

-- opening a file that was written from a deck answers the deck's head
pub open-file : (d : Deck) → Bounds d → (r : Result Head Refusal) → Opens (file_of d) r → r ≡ Ok (head_for d)
open-file d ok (Ok head) opens = ap Ok (opens.head ∙ head-deck (file_of d) ∙ ap head_for (deck-back d ok))
open-file d ok (Err e) opens = absurd (opened-refused opens (file-accepted d ok))
