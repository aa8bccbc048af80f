-- `deck::board_survival_in` meets its contract: a file that is not refused is long enough for the g numbers. Assumes nothing.
use mathlib.Core.Path.{ap₂, ◌∙◌}
use native.Mathlib.Omega.{arith}
use Rattle.rules.specs.Refusal.{most_boards}
use Rattle.rules.specs.File.{survival_bytes, switchboards_offset, numbers_from, deck_in}
use Rattle.arrays.specs.Padded.{padded}
use Rattle.deck.proofs.Kept.{few-fans, few-boards, whole}
use Rattle.deck.proofs.board_survival_in.Goals as goal

pub board_survival_offset-from-requires : goal.board_survival_offset-from-requires
board_survival_offset-from-requires c = omega (arith, few-fans c.requires)

pub board_survival_in-requires : goal.board_survival_in-requires
board_survival_in-requires c = record { few = few-boards c.requires; whole = omega (arith, whole c.requires) }

pub returns : goal.returns
unfolding deck_in
returns c =
    let from = c.board_survival_offset-from.ensures.0 ∙ ap₂ switchboards_offset c.requires.says.version c.requires.says.fans in
    c.board_survival_in.ensures ∙ ap₂ (λ from g. padded most_boards 0 (numbers_from survival_bytes c.args.file.now from g)) from c.requires.says.boards
