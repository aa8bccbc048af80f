-- `bytes::put1` meets its contract: a store is a byte laid. Assumes nothing.
use mathlib.Core.Path.{◌≡◌, sym, ap, ◌∙◌}
use mathlib.Core.List.{[], ◌∷◌}
use Prim.Native.Nat.{◌%◌}
use native.Mathlib.Omega.{arith}
use Rattle.rules.specs.File.{bytes_of}
use Rattle.writer.specs.Laid.{laid}
use Rattle.writer.proofs.Laying.{laid_one}
use borrow.Author.Rules.{rules}
use Rattle.writer.proofs.bytes.put1.Goals as goal

pub bounds-room-at : goal.bounds-room-at
bounds-room-at c = search rules

pub shape_of-room : goal.shape_of-room
shape_of-room c = search rules

pub returns : goal.returns
unfolding bytes_of
returns c =
    let byte : c.args.x % 256 ≡ c.args.x = omega arith in
    laid_one c.args.at c.args.x c.args.room.now c.requires ∙ ap (λ b. laid c.args.at (b ∷ []) c.args.room.now) (sym byte)
