-- `deck::system_in` meets its contract: a file that is not refused is long enough for its m systems. Assumes nothing.
use mathlib.Core.Path.{ap, ◌∙◌}
use Prim.Native.Nat.{◌+◌, ◌*◌}
use native.Mathlib.Omega.{arith}
use Rattle.rules.specs.File.{system_bytes, systems_offset, system_at}
use Rattle.deck.proofs.Kept.{few-fans, few-systems, few-boards, whole}
use Rattle.deck.proofs.system_in.Goals as goal

pub systems_offset-from-requires : goal.systems_offset-from-requires
systems_offset-from-requires c = (omega (arith, few-fans c.requires.headed), omega (arith, few-boards c.requires.headed))

pub overflow_mul-s : goal.overflow_mul-s
overflow_mul-s c = omega (arith, c.requires.place, few-systems c.requires.headed)

pub overflow_add-from : goal.overflow_add-from
overflow_add-from c = omega (arith, c.requires.place, few-systems c.requires.headed)

pub system_at-requires : goal.system_at-requires
system_at-requires c = omega (arith, c.requires.place, whole c.requires.headed)

pub returns : goal.returns
returns c =
    let from = c.systems_offset-from.ensures.0 ∙ (λ x. systems_offset (c.requires.headed.says.version x) (c.requires.headed.says.fans x) (c.requires.headed.says.boards x)) in
    c.system_at.ensures ∙ ap (λ from. system_at c.args.file.now (from + system_bytes * c.args.s)) from
