-- `sort` begins with empty lists and places one pattern more a turn. Assumes nothing.
use mathlib.Core.Path.{◌≡◌, refl, ◌∙◌}
use native.Mathlib.Omega.{arith}
use Rattle.places.proofs.Cells.{kept-none, kept_trans}
use Rattle.windows.proofs.Sorting.{begun}
use Rattle.windows.proofs.groups.sort.Goals as goal

pub loop-x-init : goal.loop-x-init
loop-x-init c = let b = begun c.requires in record { lists = b.lists; marked = b.marked; places = λ k l. refl; kept = kept-none }

pub returns : goal.returns
returns c =
    let b = begun c.requires in
    let e : c.loop-x.x ≡ c.args.oldest = omega arith in
    record { lists = rw e at c.loop-x.invariant.lists; places = λ k l. c.loop-x.invariant.places k l ∙ b.places k l; kept = kept_trans b.kept c.loop-x.invariant.kept }
