-- `deck_place` meets its contract: 0 stays, and any other place moves by the fans before the stretch. Assumes nothing.
use Rattle.states.specs.States.{deck_place}
use Rattle.states.proofs.Places.{some-place}
use borrow.Author.Rules.{rules}
use Rattle.states.proofs.deck_place.Goals as goal

pub returns-then-place-eq0 : goal.returns-then-place-eq0
unfolding deck_place
returns-then-place-eq0 c = rw c.if-place-eq0.true

pub returns : goal.returns
returns c = some-place c.args.a c.args.place c.if-place-eq0.false
