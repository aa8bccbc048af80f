-- `deck::survival_in` meets its contract: a file that is not refused is long enough for the n numbers. Assumes nothing.
use mathlib.Core.Path.{ap, ap₂, ◌∙◌}
use native.Mathlib.Omega.{arith}
use Rattle.rules.specs.File.{header_length, most_fans, survival_bytes, numbers_from, deck_in}
use Rattle.arrays.specs.Padded.{padded}
use Rattle.deck.proofs.Kept.{few-fans, whole}
use Rattle.deck.proofs.survival_in.Goals as goal

pub survival_in-requires : goal.survival_in-requires
survival_in-requires c = record { few = few-fans c.requires; whole = omega (arith, whole c.requires) }

pub returns : goal.returns
unfolding deck_in
returns c =
    let from = c.header_length-from.ensures.0 ∙ ap header_length c.requires.says.version in
    c.survival_in.ensures ∙ ap₂ (λ from n. padded most_fans 0 (numbers_from survival_bytes c.args.file.now from n)) from c.requires.says.fans
