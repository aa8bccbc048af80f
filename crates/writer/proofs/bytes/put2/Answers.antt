-- `bytes::put2` meets its contract: two stores are two bytes laid. Assumes nothing.
use mathlib.Core.Path.{◌≡◌, sym, ap, ◌∙◌}
use mathlib.Core.List.{[], ◌∷◌}
use Prim.Native.Nat.{◌/◌, ◌%◌}
use native.Mathlib.Omega.{arith}
use lib.ListN.{length-set}
use borrow.Author.Rules.{rules}
use Rattle.rules.specs.File.{bytes_of}
use Rattle.writer.specs.Laid.{laid}
use Rattle.writer.proofs.Laying.{laid-two}
use Rattle.writer.proofs.bytes.put2.Goals as goal

pub bounds-room-at-2 : goal.bounds-room-at-2
bounds-room-at-2 c = rw (length-set c.args.room.now c.args.at _) (omega arith)

pub returns : goal.returns
unfolding bytes_of
returns c =
    let high : c.args.x / 256 % 256 ≡ c.args.x / 256 = omega arith in
    laid-two c.args.at (c.args.x % 256) (c.args.x / 256) c.args.room.now c.requires
    ∙ ap (λ b. laid c.args.at (c.args.x % 256 ∷ b ∷ []) c.args.room.now) (sym high)
