-- `deck::misplaced` meets its contract: the board bytes where they stand. Assumes nothing.
use mathlib.Core.Path.{◌∙◌}
use Prim.Native.Nat.{◌-◌}
use lib.ListN.{take, drop}
use Rattle.rules.specs.Refusal.{misplaced}
use Rattle.deck.specs.Head.{boards_by}
use Rattle.deck.proofs.Checks.{laid-whole, misplaced-is}
use Rattle.deck.proofs.misplaced.Goals as goal

pub board_bytes-boards-requires : goal.board_bytes-boards-requires
board_bytes-boards-requires c =
    (c.requires.given.small.fans, rw (c.requires.given.says.version, c.requires.given.says.fans) (laid-whole c.args.bytes.now c.requires.laid))

pub returns : goal.returns
returns c =
    c.misplaced.ensures
    ∙ (λ x. misplaced (c.requires.given.says.version x) (c.requires.given.says.fans x) (c.requires.given.says.boards x) c.board_bytes-boards.result.now (take (c.requires.given.says.fans x - 0) (drop 0 c.board_bytes-boards.result.now)))
    ∙ misplaced-is c.args.bytes.now c.board_bytes-boards.result.now (c.board_bytes-boards.ensures ∙ (λ x. boards_by c.args.bytes.now (c.requires.given.says.version x) (c.requires.given.says.fans x)))
