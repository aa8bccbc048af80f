-- The arrays that a file's lists are read into: the first n or g entries of each are the list. And the laws of a head that its readers need: a file that is not
-- refused is long enough for each list. Assumes nothing.
use mathlib.Core.Path.{◌≡◌, sym, ap₂, ◌∙◌}
use mathlib.Core.List.{List}
use Prim.Native.Nat.{ℕ, ◌≤◌}
use native.Mathlib.Omega.{arith}
use lib.ListN.{length, take}
use Rattle.rules.specs.Refusal.{most_boards}
use Rattle.rules.specs.File.{most_fans, most_systems, file_length}
use Rattle.rules.specs.File.{fans_in, board_count_in, deck_in}
use Rattle.arrays.specs.Padded.{padded}
use Rattle.arrays.proofs.Lists.{padded-take}
use Rattle.deck.specs.declared.Head.{Head}
use Rattle.deck.specs.Outcome.{Headed}
use Rattle.deck.proofs.Sound.{sound, sound-few}

module _ {bytes : List ℕ} {head : Head} (h : Headed bytes head) where
  -- no more fans, systems and boards than a file has
  pub few-fans : head.fans ≤ most_fans
  few-fans = omega (arith, h.says.fans, (sound bytes h.accepted).most_fans)

  pub few-systems : head.systems ≤ most_systems
  few-systems = omega (arith, h.says.systems, (sound bytes h.accepted).most-systems)

  pub few-boards : head.boards ≤ most_boards
  few-boards = omega (arith, h.says.boards, sound-few bytes h.accepted)

  -- how long the file is, by its head
  pub whole : length bytes ≡ file_length head.version head.fans head.boards head.systems
  whole =
      let s = h.says in
      (sound bytes h.accepted).whole ∙ sym (λ x. file_length (s.version x) (s.fans x) (s.boards x) (s.systems x))

  -- lent arrays: the first entries are the file's list
  module _ {xs : List ℕ} where
    pub lent-survival : xs ≡ padded most_fans 0 (deck_in bytes).survival → take head.fans xs ≡ (deck_in bytes).survival
    unfolding deck_in
    lent-survival e = ap₂ take h.says.fans e ∙ padded-take most_fans 0 (fans_in bytes) _

    pub lent-weights : xs ≡ padded most_fans 0 (deck_in bytes).weights → take head.fans xs ≡ (deck_in bytes).weights
    unfolding deck_in
    lent-weights e = ap₂ take h.says.fans e ∙ padded-take most_fans 0 (fans_in bytes) _

    pub lent-numbers : xs ≡ padded most_boards 0 (deck_in bytes).switchboards → take head.boards xs ≡ (deck_in bytes).switchboards
    unfolding deck_in
    lent-numbers e = ap₂ take h.says.boards e ∙ padded-take most_boards 0 (board_count_in bytes) _
