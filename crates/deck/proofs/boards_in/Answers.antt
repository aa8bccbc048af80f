-- `deck::boards_in` meets its contract: a file that is not refused is long enough for its board bytes. Assumes nothing.
use mathlib.Core.Path.{ap₂, ◌∙◌}
use native.Mathlib.Omega.{arith}
use Rattle.rules.specs.File.{deck_in}
use Rattle.deck.specs.Head.{boards_by}
use Rattle.deck.proofs.Kept.{few-fans, whole}
use Rattle.deck.proofs.boards_in.Goals as goal

pub board_bytes-requires : goal.board_bytes-requires
board_bytes-requires c = (omega (arith, few-fans c.requires), omega (arith, whole c.requires))

pub returns : goal.returns
unfolding deck_in
returns c =
    c.board_bytes.ensures ∙ ap₂ (boards_by c.args.file.now) c.requires.says.version c.requires.says.fans
