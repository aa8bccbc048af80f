-- `sweep` works the four lists one after the other; what one list is worked with stays for the next. Both arms are proved alike. Assumes nothing.
use Rattle.windows.proofs.Levels.{handed, handed-second, handed-third, handed-fourth, all-swept}
use Rattle.windows.proofs.row.sweep.Goals as goal

pub group-requires : goal.group-requires
group-requires c = handed c.requires.midway _ _

pub group-requires-then-not-decimal : goal.group-requires-then-not-decimal
group-requires-then-not-decimal c =
    handed-second c.requires.midway c.group.ensures

pub group-requires-then-not-decimal-2 : goal.group-requires-then-not-decimal-2
group-requires-then-not-decimal-2 c =
    handed-third c.requires.midway c.group.ensures c.group-then-not-decimal.ensures

pub group-requires-then-not-decimal-3 : goal.group-requires-then-not-decimal-3
group-requires-then-not-decimal-3 c =
    handed-fourth c.requires.midway c.group.ensures c.group-then-not-decimal.ensures c.group-then-not-decimal-2.ensures

pub returns-then-not-decimal : goal.returns-then-not-decimal
returns-then-not-decimal c =
    all-swept c.group.ensures c.group-then-not-decimal.ensures c.group-then-not-decimal-2.ensures c.group-then-not-decimal-3.ensures

pub group-requires-2 : goal.group-requires-2
group-requires-2 c = handed c.requires.midway _ _

pub group-requires-3 : goal.group-requires-3
group-requires-3 c =
    handed-second c.requires.midway c.group-2.ensures

pub group-requires-4 : goal.group-requires-4
group-requires-4 c =
    handed-third c.requires.midway c.group-2.ensures c.group-3.ensures

pub group-requires-5 : goal.group-requires-5
group-requires-5 c =
    handed-fourth c.requires.midway c.group-2.ensures c.group-3.ensures c.group-4.ensures

pub returns : goal.returns
returns c =
    all-swept c.group-2.ensures c.group-3.ensures c.group-4.ensures c.group-5.ensures
