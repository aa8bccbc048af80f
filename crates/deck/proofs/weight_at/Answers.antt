-- `deck::weight_at` meets its contract: a file that is not refused is long enough for its n weights. Assumes nothing.
use mathlib.Core.Path.{sym, ap, ap₂, ◌∙◌}
use Prim.Native.Nat.{◌+◌, ◌*◌, ◌<◌}
use native.Mathlib.Omega.{arith}
use Rattle.rules.specs.File.{weight_bytes, weights_offset, number_at, fans_in, deck_in}
use Rattle.rules.proofs.Lists.{below_get}
use Rattle.deck.proofs.Kept.{few-fans, whole}
use Rattle.deck.proofs.weight_at.Goals as goal

pub weights_offset-from-requires : goal.weights_offset-from-requires
weights_offset-from-requires c = omega (arith, few-fans c.requires.headed)

pub number2-requires : goal.number2-requires
number2-requires c = omega (arith, c.requires.place, whole c.requires.headed)

pub returns : goal.returns
unfolding deck_in
returns c =
    let from = c.weights_offset-from.ensures.0 ∙ ap₂ weights_offset c.requires.headed.says.version c.requires.headed.says.fans in
    let place : c.args.i < fans_in c.args.file.now = rw c.requires.headed.says.fans at c.requires.place in
    c.number2.ensures ∙ ap (λ from. number_at weight_bytes c.args.file.now (from + weight_bytes * c.args.i)) from ∙ sym (below_get (fans_in c.args.file.now) _ 0 c.args.i place)
