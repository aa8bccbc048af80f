-- `report::put_kinds` meets its contract: the buffer so far has the lines of the kinds passed, and room for the rest. Assumes nothing.
use mathlib.Core.Path.{◌≡◌, refl}
use native.Mathlib.Omega.{arith}
use native.Mathlib.Numerals.{add-one}
use Rattle.text.proofs.Adding.{none-added, added_more}
use Rattle.rules.specs.Refusal.{last_kind}
use Rattle.season_report.specs.Lines.{kinds_text}
use Rattle.season_report.proofs.Lengths.{kinds-short}
use Rattle.season_report.proofs.put_kinds.Goals as goal

pub loop-k-init : goal.loop-k-init
unfolding kinds_text
loop-k-init c = (refl, none-added c.args.out.now c.args.at)

pub put_kind-end-requires : goal.put_kind-end-requires
put_kind-end-requires c =
    omega (arith, c.requires, c.loop-k.invariant.0, c.loop-k.invariant.1.ends, kinds-short c.loop-k.k c.args.kinds)

pub loop-k-preserved : goal.loop-k-preserved
unfolding kinds_text
loop-k-preserved c =
    (omega (arith, c.put_kind-end.auto, c.loop-k.invariant.0), rw add-one (added_more c.loop-k.invariant.1 (rw add-one at c.put_kind-end.ensures)))

pub shape_of-out : goal.shape_of-out
shape_of-out c = c.loop-k.invariant.0

pub returns : goal.returns
returns c =
    let e : c.loop-k.k ≡ last_kind = omega arith in
    rw e at c.loop-k.invariant.1
