-- `deck::weights_in` meets its contract: a file that is not refused is long enough for the n weights. Assumes nothing.
use mathlib.Core.Path.{ap₂, ◌∙◌}
use native.Mathlib.Omega.{arith}
use Rattle.rules.specs.File.{most_fans, weight_bytes, weights_offset, numbers_from, deck_in}
use Rattle.arrays.specs.Padded.{padded}
use Rattle.deck.proofs.Kept.{few-fans, whole}
use Rattle.deck.proofs.weights_in.Goals as goal

pub weights_offset-from-requires : goal.weights_offset-from-requires
weights_offset-from-requires c = omega (arith, few-fans c.requires)

pub weights_in-requires : goal.weights_in-requires
weights_in-requires c = record { few = few-fans c.requires; whole = omega (arith, whole c.requires) }

pub returns : goal.returns
unfolding deck_in
returns c =
    let from = c.weights_offset-from.ensures.0 ∙ ap₂ weights_offset c.requires.says.version c.requires.says.fans in
    c.weights_in.ensures ∙ ap₂ (λ from n. padded most_fans 0 (numbers_from weight_bytes c.args.file.now from n)) from c.requires.says.fans
