-- `rule::put_numbers` meets its contract: the three numbers fit. Assumes nothing.
use native.Mathlib.Omega.{arith}
use Rattle.text.specs.Decimal.{text}
use Rattle.text.proofs.Adding.{named-added, named-reach, added_more}
use Rattle.wording.proofs.rule.put_numbers.Goals as goal

pub put_pair-requires : goal.put_pair-requires
put_pair-requires c =
    let one = named-added (omega (arith, c.requires)) c.put_named-end.ensures in
    omega (arith, c.requires, c.put_named-end.auto, named-reach (text "kind ") c.args.kind one)

pub returns : goal.returns
returns c =
    added_more (named-added (omega (arith, c.requires)) c.put_named-end.ensures) c.put_pair.ensures
