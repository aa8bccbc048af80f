-- `deck::survival_at` meets its contract: a file that is not refused is long enough for its n numbers. Assumes nothing.
use mathlib.Core.Path.{sym, ap, ◌∙◌}
use Prim.Native.Nat.{◌+◌, ◌*◌, ◌<◌}
use native.Mathlib.Omega.{arith}
use Rattle.rules.specs.File.{survival_bytes, header_length, number_at, fans_in, deck_in}
use Rattle.rules.proofs.Lists.{below_get}
use Rattle.deck.proofs.Kept.{few-fans, whole}
use Rattle.deck.proofs.survival_at.Goals as goal

pub overflow_mul-i : goal.overflow_mul-i
overflow_mul-i c = omega (arith, c.requires.place, few-fans c.requires.headed)

pub overflow_add-from : goal.overflow_add-from
overflow_add-from c = omega (arith, c.requires.place, few-fans c.requires.headed)

pub number4-requires : goal.number4-requires
number4-requires c = omega (arith, c.requires.place, whole c.requires.headed)

pub returns : goal.returns
unfolding deck_in
returns c =
    let from = c.header_length-from.ensures.0 ∙ ap header_length c.requires.headed.says.version in
    let place : c.args.i < fans_in c.args.file.now = rw c.requires.headed.says.fans at c.requires.place in
    c.number4.ensures ∙ ap (λ from. number_at survival_bytes c.args.file.now (from + survival_bytes * c.args.i)) from ∙ sym (below_get (fans_in c.args.file.now) _ 0 c.args.i place)
