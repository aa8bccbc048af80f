-- What looking at a file answers: its refusal, or its head, by which it is mended.
use Rattle.std.specs.Prelude.{Result, IfOk, ◌≡◌, false, List, [], ◌∷◌, ℕ, ◌≤◌}
use Rattle.rules.specs.declared.refusal.Refusal.{Refusal}
use Rattle.rules.specs.Refusal.{refusal_in, most_boards, bad_version, after, first_of}
use Rattle.rules.specs.File.{most_fans, most_systems, header_of}
use Rattle.rules.specs.Mending.{ends_early, beyond_mending}
use Rattle.deck.specs.declared.Head.{Head}
use Rattle.deck.specs.Head.{head_of, Says, counts_refusal}

-- 2, 12, 20 and 22, of a file whose header is there
unfoldable pub cut_refusal : List ℕ → ℕ
cut_refusal bytes = after (counts_refusal (head_of bytes)) (first_of ((22, ends_early bytes) ∷ []))

-- the outcome of looking at a file
pub record Looks (bytes : List ℕ) (r : Result Head Refusal) : Type 0 where
  pub refusal : refusal_in r ≡ beyond_mending bytes
  pub says : IfOk r (λ head. Says bytes head)

-- a file that can be mended, with its head
pub record Looked (bytes : List ℕ) (head : Head) : Type 0 where
  pub none : beyond_mending bytes ≡ 0
  pub says : Says bytes head

-- a head whose header can be written, and that header
pub record Sized (head : Head) : Type 0 where
  pub versioned : bad_version head.version ≡ false
  pub fans : head.fans ≤ most_fans
  pub systems : head.systems ≤ most_systems
  pub boards : head.boards ≤ most_boards

abbrev pub header_by : Head → List ℕ
header_by head = header_of head.version head.fans head.boards head.systems
