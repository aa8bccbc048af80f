-- `telling::put_verdict` meets its contract, case by case. Assumes nothing.
use native.Mathlib.Omega.{arith}
use Rattle.text.proofs.Adding.{put-added}
use Rattle.deckstate.proofs.telling.put_verdict.Goals as goal

pub returns-in-Works : goal.returns-in-Works
returns-in-Works c =
    rw c.in-Works.is (put-added (omega (arith, c.requires)) c.put.ensures)

pub returns-in-Fails : goal.returns-in-Fails
returns-in-Fails c =
    rw c.in-Fails.is c.put_place.ensures

pub returns-in-Refused : goal.returns-in-Refused
returns-in-Refused c =
    rw c.in-Refused.is c.put_refused.ensures
