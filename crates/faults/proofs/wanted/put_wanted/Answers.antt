-- `wanted::put_wanted` meets its contract: the words fit, and the numbers behind them. Assumes nothing.
use native.Mathlib.Omega.{arith}
use Rattle.text.proofs.Adding.{added_more}
use Rattle.faults.specs.Wanted.{wanted_text}
use Rattle.faults.proofs.Tables.{words-short}
use Rattle.faults.proofs.wanted.put_wanted.Goals as goal

pub put_numbers-requires : goal.put_numbers-requires
put_numbers-requires c =
    omega (arith, c.requires, c.put_words-end.auto, c.put_words-end.ensures.ends, words-short c.args.wanted)

pub returns : goal.returns
unfolding wanted_text
returns c =
    added_more c.put_words-end.ensures c.put_numbers.ensures
