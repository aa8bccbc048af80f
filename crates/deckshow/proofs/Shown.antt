-- What is read of a file and what is shown of its deck: the deck's lists are as long as the head says, and their lines fit. Assumes nothing.
use mathlib.Core.Path.{◌≡◌, sym, ◌∙◌}
use mathlib.Core.List.{List}
use Prim.Native.Nat.{ℕ, ◌≤◌, ◌<◌}
use native.Mathlib.Omega.{arith}
use native.Mathlib.Nat.{mul-le-mul_left}
use lib.ListN.{length, get_or}
use Rattle.rules.specs.Refusal.{most_boards}
use Rattle.rules.specs.File.{most_fans, fans_in, count_in, board_count_in, system_in, deck_in}
use Rattle.rules.proofs.Lists.{below_length, below_get}
use Rattle.arrays.specs.Padded.{no_system}
use Rattle.deck.specs.declared.Head.{Head}
use Rattle.deck.specs.Outcome.{Headed}
use Rattle.deck.proofs.Kept.{few-fans, few-boards}
use Rattle.printing.proofs.Lined.{lines-short}
use Rattle.wording.specs.Lines.{board_room, fan_room}
use Rattle.deckshow.specs.Lines.{board_line, fan_line, boards_text, fans_text, boards_room, fans_room}
use Rattle.deckshow.proofs.Lengths.{board-line, fan-line}

module _ {bytes : List ℕ} {head : Head} (h : Headed bytes head) where
  pub fans-shown : length (deck_in bytes).survival ≡ head.fans
  unfolding deck_in
  fans-shown = below_length (fans_in bytes) _ ∙ sym h.says.fans

  pub boards-shown : length (deck_in bytes).switchboards ≡ head.boards
  unfolding deck_in
  boards-shown = below_length (board_count_in bytes) _ ∙ sym h.says.boards

  pub systems-shown : length (deck_in bytes).systems ≡ head.systems
  unfolding deck_in
  systems-shown = below_length (count_in bytes) _ ∙ sym h.says.systems

  pub system-shown : (s : ℕ) → s < head.systems → get_or (deck_in bytes).systems s no_system ≡ system_in bytes s
  unfolding deck_in
  system-shown s l = below_get (count_in bytes) _ no_system s (omega (arith, h.says.systems))

  -- all lines of the boards, and of the fans, fit
  pub boards-short : length (boards_text (deck_in bytes)) ≤ boards_room
  boards-short =
      let d = deck_in bytes in
      let few : length d.switchboards ≤ most_boards = omega (arith, boards-shown, few-boards h) in
      let room = mul-le-mul_left board_room few in
      omega (arith, lines-short board_room (length d.switchboards) (board_line d) (board-line d))

  pub fans-short : length (fans_text (deck_in bytes)) ≤ fans_room
  fans-short =
      let d = deck_in bytes in
      let few : length d.survival ≤ most_fans = omega (arith, fans-shown, few-fans h) in
      let room = mul-le-mul_left fan_room few in
      omega (arith, lines-short fan_room (length d.survival) (fan_line d) (fan-line d))
