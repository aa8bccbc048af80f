-- `put_asked` meets its contract: the line of a refusal, or the lines of the stretch's places. Assumes nothing.
use mathlib.Core.Path.{◌≡◌, sym, ap, ap₂, ◌∙◌}
use mathlib.Core.List.{[]}
use Prim.Native.Nat.{◌+◌, ◌-◌}
use native.Mathlib.Omega.{arith}
use borrow.Author.Tests.{eq-eqb, ne_eqb}
use Rattle.rules.specs.Asked.{Asked, asked_with, size_of}
use Rattle.rules.proofs.Numbers.{number-some}
use Rattle.rules.proofs.Unless.{unless-some}
use Rattle.text.specs.Decimal.{text}
use Rattle.text.proofs.Adding.{added_more, named-added, named-reach}
use Rattle.spares.specs.Places.{spare_refusal}
use Rattle.spares.proofs.Rating.{accepted, inside}
use Rattle.spare_lines.specs.Lines.{refused_line, gain_lines}
use Rattle.spare_lines.specs.Best.{ranked_in, best_text}
use Rattle.spare_lines.specs.System.{answered_text}
use Rattle.spare_lines.proofs.Same.{gains-same}
use Rattle.spare_lines.proofs.Whole.{of_two, of_one, ranked-is, decimal-is}
use Rattle.spare_lines.proofs.put_asked.Goals as goal
use Rattle.spare_lines.proofs.put_asked.Goals.{In_default, Start}

-- what is asked, and that it is not refused
abbrev asked : Start → Asked
asked c = asked_with c.args.question c.args.lists.now

none : (c : In_default) →
    spare_refusal (asked_with c.args.question c.args.lists.now) c.args.job.p ≡ 0
none c = sym c.in_default.ensures

pub overflow_add-s : goal.overflow_add-s
overflow_add-s c = omega (arith, c.requires.place)

pub put_named-end-requires : goal.put_named-end-requires
put_named-end-requires c = omega (arith, c.requires.room)

pub put_refused-requires : goal.put_refused-requires
put_refused-requires c =
    let one = named-added (omega (arith, c.requires.room)) c.put_named-end.ensures in
    omega (arith, c.requires.room, c.put_named-end.auto, named-reach (text "system ") (c.args.job.s + 1) one)

pub returns-in-Err : goal.returns-in-Err
returns-in-Err c =
    let q = asked ((goal.at.returns-in-Err c).Start) in
    let one = named-added (omega (arith, c.requires.room)) c.put_named-end.ensures in
    rw (unless-some (spare_refusal q c.args.job.p) (refused_line (c.args.job.s + 1)) (answered_text c.args.job q) (λ none. number-some _ (c.in-Err.ensures ∙ none)), ← c.in-Err.ensures, ← c.number.ensures)
    (added_more one c.put_refused.ensures)

pub put_two-requires : goal.put_two-requires
put_two-requires c =
    record { accepted = none ((goal.at.put_two-requires c).In_default); room = omega (arith, c.requires.room) }

pub returns-then-job : goal.returns-then-job
returns-then-job c =
    let q = asked ((goal.at.returns-then-job c).Start) in
    rw (of_two c.args.job q (none ((goal.at.returns-then-job c).In_default)) c.if-job.true) c.put_two.ensures

pub rate_now-before-requires : goal.rate_now-before-requires
rate_now-before-requires c =
    accepted (asked ((goal.at.rate_now-before-requires c).Start)) c.args.job.p (none ((goal.at.rate_now-before-requires c).In_default))

pub rate_places-places-requires : goal.rate_places-places-requires
rate_places-places-requires c = none ((goal.at.rate_places-places-requires c).In_default)

pub overflow_sub-size : goal.overflow_sub-size
overflow_sub-size c =
    omega (arith, inside (asked ((goal.at.overflow_sub-size c).Start)) c.args.job.p (none ((goal.at.overflow_sub-size c).In_default)))

pub overflow_add-size : goal.overflow_add-size
overflow_add-size c =
    omega (arith, inside (asked ((goal.at.overflow_add-size c).Start)) c.args.job.p (none ((goal.at.overflow_add-size c).In_default)))

pub put_gains-requires : goal.put_gains-requires
put_gains-requires c =
    let lies = inside (asked ((goal.at.put_gains-requires c).Start)) c.args.job.p (none ((goal.at.put_gains-requires c).In_default)) in
    record {
      few = record { few = (omega arith, omega arith); long = c.rate_places-places.ensures.long };
      within = record { after = c.rate_places-places.ensures.within; now = c.rate_now-before.ensures.within };
      room = omega (arith, c.requires.room);
    }

pub returns-then-job-eq0 : goal.returns-then-job-eq0
returns-then-job-eq0 c =
    let q = asked ((goal.at.returns-then-job-eq0 c).Start) in
    let job = c.args.job in
    let lies = inside q job.p (none ((goal.at.returns-then-job-eq0 c).In_default)) in
    let size : q.b - q.a + 1 ≡ size_of q = omega arith in
    let text-is = ap (λ k. gain_lines (job.s + 1) q.a k c.rate_places-places.result c.rate_now-before.result) size
    ∙ gains-same (job.s + 1) c.rate_places-places.ensures c.rate_now-before.ensures in
    rw (of_one job q (none ((goal.at.returns-then-job-eq0 c).In_default)) c.if-job.false, eq-eqb job.best 0 c.if-job-eq0.true, ← text-is) c.put_gains.ensures

pub put_best-requires : goal.put_best-requires
put_best-requires c =
    let lies = inside (asked ((goal.at.put_best-requires c).Start)) c.args.job.p (none ((goal.at.put_best-requires c).In_default)) in
    record {
      few = record { few = (omega arith, omega arith); long = c.rate_places-places.ensures.long };
      within = record { after = c.rate_places-places.ensures.within; now = c.rate_now-before.ensures.within };
      room = omega (arith, c.requires.room);
    }

pub returns : goal.returns
returns c =
    let q = asked ((goal.at.returns c).Start) in
    let job = c.args.job in
    let lies = inside q job.p (none ((goal.at.returns c).In_default)) in
    let size : q.b - q.a + 1 ≡ size_of q = omega arith in
    let text-is = ap (λ k. best_text (record { s = job.s + 1; a = q.a; size = k; decimal = c.is_decimal.result }) job.best (ranked_in k c.rate_places-places.result c.rate_now-before.result)) size
    ∙ ap₂ (λ b k. best_text (record { s = job.s + 1; a = q.a; size = size_of q; decimal = b }) job.best k) (decimal-is c.is_decimal.result q.version c.is_decimal.ensures)
    (ranked-is c.rate_places-places.ensures c.rate_now-before.ensures) in
    rw (of_one job q (none ((goal.at.returns c).In_default)) c.if-job.false, ne_eqb job.best 0 c.if-job-eq0.false, ← text-is) c.put_best.ensures
