-- `plus_systems` meets its contract: the totals so far are those with the systems passed. Assumes nothing.
use mathlib.Core.Path.{◌≡◌, refl, sym, ap, ◌∙◌}
use Prim.Native.Nat.{◌+◌}
use native.Mathlib.Omega.{arith}
use native.Mathlib.Numerals.{add-one}
use Rattle.rules.specs.State.{unit_of}
use Rattle.rules.specs.File.{count_in}
use Rattle.rules.proofs.Units.{unit-most}
use Rattle.deck.proofs.Kept.{few-systems}
use Rattle.totals.specs.Plus.{system_plus, systems_plus}
use Rattle.totals.specs.Room.{most_answers, answers_before}
use Rattle.totals.proofs.Spare.{answer-fair, totals-more, systems-room}
use Rattle.season_files.proofs.plus_systems.Goals as goal

pub loop-s-init : goal.loop-s-init
unfolding systems_plus
loop-s-init c = refl

pub system_in-system-requires : goal.system_in-system-requires
system_in-system-requires c =
    record { headed = c.requires.headed; place = c.loop-s-test.true }

pub rate-answer-requires : goal.rate-answer-requires
rate-answer-requires c =
    record { headed = c.requires.headed; place = c.loop-s-test.true }

pub plus_system-sum-requires : goal.plus_system-sum-requires
plus_system-sum-requires c =
    let few = few-systems c.requires.headed in
    let room = totals-more (answers_before + c.loop-s.s) most_answers (omega (arith, c.loop-s-test.true)) _ (systems-room answers_before c.args.totals c.args.file.now c.loop-s.s c.requires.room) in
    let unit = c.whole-unit.ensures ∙ c.is_decimal.ensures in record { room = rw c.loop-s.invariant room; unit = rw unit (unit-most _); fair = rw c.rate-answer.ensures (answer-fair c.args.file.now c.loop-s.s) }

pub loop-s-preserved : goal.loop-s-preserved
unfolding systems_plus
loop-s-preserved c =
    let unit = c.whole-unit.ensures ∙ c.is_decimal.ensures ∙ ap unit_of c.requires.headed.says.version in
    let next = add-one c.loop-s.s in
    c.plus_system-sum.ensures
    ∙ (λ i. system_plus (c.loop-s.invariant i) (next i) (unit i) (c.system_in-system.ensures i).rule.kind (c.rate-answer.ensures i))
    ∙ ap (systems_plus c.args.totals c.args.file.now) (sym next)

pub returns : goal.returns
returns c =
    let e : c.loop-s.s ≡ count_in c.args.file.now = omega (arith, c.loop-s.auto.s-end, c.loop-s-test.false, c.requires.headed.says.systems) in
    c.loop-s.invariant ∙ ap (systems_plus c.args.totals c.args.file.now) e
