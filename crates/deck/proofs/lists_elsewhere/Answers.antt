-- `deck::lists_elsewhere` meets its contract: each offset is worked out by the head, which says what the file says. Assumes nothing.
use mathlib.Core.Path.{ap, ap₂, ◌∙◌}
use mathlib.Core.Bool.{not, ◌||◌}
use native.Mathlib.Omega.{arith}
use lib.Dec.{eqb}
use Rattle.rules.specs.File.{number_at, survival_field, weights_field, systems_field, header_length, weights_offset, systems_offset, version_in}
use Rattle.layout.proofs.Versions.{header-bounds}
use Rattle.deck.proofs.lists_elsewhere.Goals as goal

pub elsewhere-requires : goal.elsewhere-requires
elsewhere-requires c =
    omega (arith, c.requires.long, header-bounds (version_in c.args.bytes.now))

pub elsewhere-requires-2 : goal.elsewhere-requires-2
elsewhere-requires-2 c =
    omega (arith, c.requires.long, header-bounds (version_in c.args.bytes.now))

pub elsewhere-requires-3 : goal.elsewhere-requires-3
elsewhere-requires-3 c =
    omega (arith, c.requires.long, header-bounds (version_in c.args.bytes.now))

pub returns : goal.returns
returns c =
    let survival = c.header_length-survival.ensures.0 ∙ ap header_length c.requires.says.version in
    let weights = c.weights_offset-weights.ensures.0 ∙ ap₂ weights_offset c.requires.says.version c.requires.says.fans in
    let systems = c.systems_offset-systems.ensures.0 ∙ (λ x. systems_offset (c.requires.says.version x) (c.requires.says.fans x) (c.requires.says.boards x)) in
    (λ x. c.elsewhere.ensures x || c.elsewhere-2.ensures x || c.elsewhere-3.ensures x)
    ∙ (λ x.
    not (eqb (number_at 4 c.args.bytes.now survival_field) (survival x)) || not (eqb (number_at 4 c.args.bytes.now weights_field) (weights x))
    || not (eqb (number_at 4 c.args.bytes.now systems_field) (systems x)))
