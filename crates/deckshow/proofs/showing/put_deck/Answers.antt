-- `showing::put_deck` meets its contract: the lines of the version, the boards, the fans and the systems fit one after another. Assumes nothing.
use native.Mathlib.Omega.{arith}
use Rattle.rules.specs.File.{deck_in}
use Rattle.text.proofs.Adding.{added_more}
use Rattle.deckshow.proofs.Lengths.{version-short}
use Rattle.deckshow.proofs.Shown.{boards-short, fans-short}
use Rattle.deckshow.proofs.showing.put_deck.Goals as goal

pub put_boards-boards-requires : goal.put_boards-boards-requires
put_boards-boards-requires c =
    record { headed = c.requires.headed; room = omega (arith, c.requires.room, c.put_version-version.auto, c.put_version-version.ensures.ends, version-short c.args.head.version) }

pub put_fans-fans-requires : goal.put_fans-fans-requires
put_fans-fans-requires c =
    let first = version-short c.args.head.version in
    let second = boards-short c.requires.headed in
    record { headed = c.requires.headed; room = omega (arith, c.requires.room, c.put_version-version.auto, c.put_version-version.ensures.ends, c.put_boards-boards.auto, c.put_boards-boards.ensures.ends) }

pub put_systems-requires : goal.put_systems-requires
put_systems-requires c =
    let first = version-short c.args.head.version in
    let second = boards-short c.requires.headed in
    let third = fans-short c.requires.headed in
    record { headed = c.requires.headed; room = omega (arith, c.requires.room, c.put_version-version.auto, c.put_version-version.ensures.ends, c.put_boards-boards.auto, c.put_boards-boards.ensures.ends, c.put_fans-fans.auto, c.put_fans-fans.ensures.ends) }

pub returns : goal.returns
unfolding deck_in
returns c =
    let version = rw c.requires.headed.says.version at c.put_version-version.ensures in
    added_more (added_more (added_more version c.put_boards-boards.ensures) c.put_fans-fans.ensures) c.put_systems.ensures
