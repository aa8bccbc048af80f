-- What opening a file answers, and what the functions that read a file's numbers ask of its head.
use Rattle.std.specs.Prelude.{Result, IfOk, ◌≡◌, List, [], ◌∷◌, ℕ, ◌<◌}
use Rattle.rules.specs.declared.refusal.Refusal.{Refusal}
use Rattle.rules.specs.Refusal.{after, first_of, refusal_in}
use Rattle.rules.specs.File.{bad_layout, misplaced_in, file_refusal}
use Rattle.deck.specs.declared.Head.{Head}
use Rattle.deck.specs.Head.{head_of, Says, counts_refusal}

-- 2, 12, 20, 13 and 21, of a file whose header is there
unfoldable pub body_refusal : List ℕ → ℕ
body_refusal bytes = after (counts_refusal (head_of bytes)) (first_of ((13, bad_layout bytes) ∷ (21, misplaced_in bytes) ∷ []))

-- the outcome of opening a file: its refusal, or its head where there is none
pub record Opens (bytes : List ℕ) (r : Result Head Refusal) : Type 0 where
  pub refusal : refusal_in r ≡ file_refusal bytes
  pub head : IfOk r (λ head. head ≡ head_of bytes)

-- a file that is not refused, with its head
pub record Headed (bytes : List ℕ) (head : Head) : Type 0 where
  pub accepted : file_refusal bytes ≡ 0
  pub says : Says bytes head

-- and a place of one of its systems, counted from 0
pub record Placed (bytes : List ℕ) (head : Head) (s : ℕ) : Type 0 where
  pub headed : Headed bytes head
  pub place : s < head.systems
