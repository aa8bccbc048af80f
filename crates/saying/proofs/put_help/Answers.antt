-- `put_help` meets its contract: three times three texts, with room for each. Assumes nothing.
use native.Mathlib.Omega.{arith}
use Rattle.text.specs.Decimal.{text}
use Rattle.text.proofs.Adding.{added_more}
use Rattle.saying.proofs.Texts.{three-ends}
use Rattle.saying.proofs.put_help.Goals as goal

pub put_three-second-requires : goal.put_three-second-requires
put_three-second-requires c =
    let one = three-ends (text "usage: ") c.args.program.now (text " ") c.put_three-first.ensures in
    omega (arith, c.requires.named.0, c.requires.named.1, c.requires.room, c.put_three-first.auto, one)

pub put_three-requires : goal.put_three-requires
put_three-requires c =
    let one = three-ends (text "usage: ") c.args.program.now (text " ") c.put_three-first.ensures in
    let two = three-ends c.args.synopsis.now (text "\n       ") c.args.program.now c.put_three-second.ensures in
    omega (arith, c.requires.named.0, c.requires.named.1, c.requires.room, c.put_three-first.auto, c.put_three-second.auto, one, two)

pub returns : goal.returns
returns c =
    added_more (added_more c.put_three-first.ensures c.put_three-second.ensures) c.put_three.ensures
