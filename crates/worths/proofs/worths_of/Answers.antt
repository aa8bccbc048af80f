-- `worths_of` meets its contract: both arrays are filled from the front, one fan a turn. Assumes nothing.
use mathlib.Core.Path.{ap, ◌∙◌}
use Prim.Native.Nat.{◌+◌}
use native.Mathlib.Omega.{arith}
use lib.IntN.{pos}
use mir.Syntax.{w64}
use mir.ValLaws.{to_z-of_z}
use borrow.Author.Rules.{sfits_of}
use Rattle.rules.specs.File.{worth_in}
use Rattle.rules.specs.Below.{list_below}
use Rattle.arrays.specs.Padded.{padded}
use Rattle.arrays.proofs.Lists.{padded-none, padded-more, padded-all}
use Rattle.deck.proofs.Kept.{few-fans}
use Rattle.drawn.specs.Drawn.{most_drawn}
use Rattle.worths.specs.Worths.{lower_end, upper_end}
use Rattle.worths.proofs.worths_of.Goals as goal

pub loop-i-init : goal.loop-i-init
loop-i-init c = (padded-none _ _ _, padded-none _ _ _)

pub weigh-worth-requires : goal.weigh-worth-requires
weigh-worth-requires c = c.requires

pub offset_bounds-lower-i : goal.offset_bounds-lower-i
offset_bounds-lower-i c = omega (arith, c.loop-i-test.true, few-fans c.requires.headed)

pub bounds-lower-i : goal.bounds-lower-i
bounds-lower-i c = omega (arith, c.loop-i-test.true, few-fans c.requires.headed)

pub offset_bounds-upper-i : goal.offset_bounds-upper-i
offset_bounds-upper-i c = omega (arith, c.loop-i-test.true, few-fans c.requires.headed)

pub bounds-upper-i : goal.bounds-upper-i
bounds-upper-i c = omega (arith, c.loop-i-test.true, few-fans c.requires.headed)

pub loop-i-preserved : goal.loop-i-preserved
loop-i-preserved c =
    let few = few-fans c.requires.headed in (
      padded-more _ _ _ c.loop-i.invariant.0 (omega arith) (to_z-of_z w64 c.lower_of.result (sfits_of c.lower_of.type_inv) ∙ c.lower_of.ensures ∙ ap lower_end c.weigh-worth.ensures),
      padded-more _ _ _ c.loop-i.invariant.1 (omega arith) (to_z-of_z w64 c.upper_of.result (sfits_of c.upper_of.type_inv) ∙ c.upper_of.ensures ∙ ap upper_end c.weigh-worth.ensures),
    )

pub returns : goal.returns
returns c =
    record {
      lower = padded-all _ _ _ c.loop-i.invariant.0 (omega arith) ∙ ap (λ n. padded most_drawn (pos 0) (list_below n (λ j. lower_end (worth_in c.args.file.now c.args.s (j + 1))))) c.requires.headed.says.fans;
      upper = padded-all _ _ _ c.loop-i.invariant.1 (omega arith) ∙ ap (λ n. padded most_drawn (pos 0) (list_below n (λ j. upper_end (worth_in c.args.file.now c.args.s (j + 1))))) c.requires.headed.says.fans;
    }
