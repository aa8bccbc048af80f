-- `plus_file` meets its contract, on a refusal and on none: before the last file there is room for one deck more. Assumes nothing.
use mathlib.Core.Path.{sym, ap, ◌∙◌}
use Prim.Native.Nat.{◌*◌}
use native.Mathlib.Omega.{arith}
use Rattle.rules.specs.File.{most_systems}
use Rattle.rules.proofs.Unless.{unless-some, unless-none}
use Rattle.deck.proofs.Outcome.{opened-accepted, opened-headed, opened-refused}
use Rattle.totals.specs.Plus.{refusal_plus, file_plus}
use Rattle.totals.specs.Room.{answers_before}
use Rattle.totals.proofs.Spare.{totals-more}
use Rattle.season_files.proofs.plus_file.Goals as goal

pub returns-in-Err : goal.returns-in-Err
unfolding file_plus
returns-in-Err c =
    ap (refusal_plus c.args.totals) (c.number.ensures ∙ c.in-Err.ensures.refusal) ∙ sym (unless-some _ _ _ (opened-refused c.in-Err.ensures))

pub plus_systems-requires : goal.plus_systems-requires
plus_systems-requires c =
    let room = totals-more (most_systems * c.args.totals.decks) answers_before (omega (arith, c.requires.few)) c.args.totals c.requires.room in
    record { headed = opened-headed c.in-Ok.ensures; room = record { other = room.other; eight = room.eight; kinds = room.kinds } }

pub returns-in-Ok : goal.returns-in-Ok
unfolding file_plus
returns-in-Ok c = c.plus_systems.ensures ∙ sym (unless-none _ _ _ (opened-accepted c.in-Ok.ensures))
