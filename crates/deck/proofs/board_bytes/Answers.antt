-- `deck::board_bytes` meets its contract: bytes as they stand are numbers of one byte. Assumes nothing.
use mathlib.Core.Path.{◌≡◌, ap, ap₂, ◌∙◌}
use Prim.Native.Nat.{◌+◌, ◌-◌}
use native.Mathlib.Omega.{arith}
use lib.ListN.{take, drop}
use Rattle.rules.specs.File.{boards_offset, board_fans}
use Rattle.layout.proofs.Numbers.{bytes-are}
use Rattle.deck.proofs.board_bytes.Goals as goal

pub returns : goal.returns
returns c =
    let from = boards_offset c.args.version c.args.n in
    let k = board_fans c.args.version c.args.n in
    let some : from + k - from ≡ k = omega arith in
    ap₂ (λ i j. take (i + j - i) (drop i c.args.bytes.now)) c.boards_offset-from.ensures.0 c.board_fans.ensures.0
    ∙ ap (λ j. take j (drop from c.args.bytes.now)) some
    ∙ bytes-are c.args.bytes.now from k (omega (arith, c.requires.1))
