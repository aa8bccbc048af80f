-- `office::tell` writes both ends where there are any, and nothing else. Assumes nothing.
use mathlib.Core.Path.{refl}
use borrow.Author.Rules.{rules}
use Rattle.office.proofs.tell.Goals as goal

pub returns-in-Range : goal.returns-in-Range
returns-in-Range c = rw c.in-Range.is record { number = refl; ends = refl }
