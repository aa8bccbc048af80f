-- `listed::number_at` meets its contract, test by test. Assumes nothing.
use mathlib.Core.Path.{sym, ◌∙◌}
use Prim.Native.Nat.{◌*◌, ◌/◌, ◌%◌, ◌<◌}
use native.Mathlib.Omega.{arith}
use lib.ListN.{drop}
use lib.Seq.{get_or-drop}
use Rattle.rules.specs.File.{per_system}
use Rattle.typed_lists.specs.Lists.{per_listed}
use Rattle.typed_lists.proofs.MoreSystems.{five-given, five-a, five-b, five-rule}
use Rattle.typed_lists.proofs.listed.number_at.Goals as goal

pub returns-then-listed-from-ne0 : goal.returns-then-listed-from-ne0
returns-then-listed-from-ne0 c =
    let all = drop (c.args.j / per_system * per_listed) c.args.listed.now in
    let at = get_or-drop (c.args.j / per_system * per_listed) c.args.listed.now in
    let l : c.args.j % per_system < per_system = omega arith in
    sym (five-given c.args.fans all (c.args.j % per_system) l (λ e. c.if-listed-from-ne0.true (sym (at 5 0) ∙ e)) ∙ at (c.args.j % per_system) 0)

pub returns-then-k-eq-A : goal.returns-then-k-eq-A
returns-then-k-eq-A c =
    let all = drop (c.args.j / per_system * per_listed) c.args.listed.now in
    let at = get_or-drop (c.args.j / per_system * per_listed) c.args.listed.now in
    let l : c.args.j % per_system < per_system = omega arith in
    sym (five-a c.args.fans all (c.args.j % per_system) l (at 5 0 ∙ c.if-listed-from-ne0.false) c.if-k-eq-A.true)

pub returns-then-k-eq-B : goal.returns-then-k-eq-B
returns-then-k-eq-B c =
    let all = drop (c.args.j / per_system * per_listed) c.args.listed.now in
    let at = get_or-drop (c.args.j / per_system * per_listed) c.args.listed.now in
    let l : c.args.j % per_system < per_system = omega arith in
    sym (five-b c.args.fans all (c.args.j % per_system) l (at 5 0 ∙ c.if-listed-from-ne0.false) c.if-k-eq-B.true)

pub returns : goal.returns
returns c =
    let all = drop (c.args.j / per_system * per_listed) c.args.listed.now in
    let at = get_or-drop (c.args.j / per_system * per_listed) c.args.listed.now in
    let l : c.args.j % per_system < per_system = omega arith in
    sym (five-rule c.args.fans all (c.args.j % per_system) l (at 5 0 ∙ c.if-listed-from-ne0.false) c.if-k-eq-A.false c.if-k-eq-B.false ∙ at (c.args.j % per_system) 0)
