-- `lines::put_answer` meets its contract: what follows low and high fits behind them. Assumes nothing.
use native.Mathlib.Omega.{arith}
use Rattle.text.specs.Decimal.{text}
use Rattle.text.proofs.Adding.{added_more, pair-reach}
use Rattle.decklist.proofs.lines.put_answer.Goals as goal

pub put_end-requires : goal.put_end-requires
put_end-requires c =
    record { within = c.requires.within; room = omega (arith, c.requires.room, c.put_pair-end.auto, pair-reach (text " low ") _ (text " high ") _ c.put_pair-end.ensures) }

pub returns : goal.returns
returns c =
    added_more c.put_pair-end.ensures c.put_end.ensures
