-- `words::pass` meets its contract: what is passed is the word so far. Assumes nothing.
use mathlib.Core.Path.{◌≡◌, sym, ◌∙◌}
use Prim.Native.Nat.{◌-◌}
use mathlib.Core.Bool.{true, ◌||◌}
use lib.Dec.{eqb}
use lib.ListN.{length, get_or}
use native.Mathlib.Numerals.{add-one}
use native.Mathlib.Omega.{arith}
use borrow.Author.Tests.{eq-eqb, ne_eqb}
use Rattle.grammar.specs.Words.{comment, blank}
use Rattle.grammar.specs.Stands.{part}
use Rattle.grammar.proofs.Walking.{or-first, or-second, pass_on, at-stop, at-end}
use Rattle.grammar.proofs.words.pass.Goals as goal
use Rattle.grammar.proofs.words.pass.Goals.{then-line-i-eq-COMMENT-via-then-line-i-eq-COMMENT, then-line-i-eq-COMMENT-via-else-line-i-eq-COMMENT+then-is_blank}

pub returns-then-line-i-eq-COMMENT : goal.returns-then-line-i-eq-COMMENT
returns-then-line-i-eq-COMMENT c =
    let line = c.args.line.now in
    let stop : eqb (get_or line c.loop-i.i 0) comment || blank (get_or line c.loop-i.i 0) ≡ true = elim c.then-line-i-eq-COMMENT.branch [
      | then-line-i-eq-COMMENT-via-then-line-i-eq-COMMENT w ↦ or-first _ _ (eq-eqb _ _ w.if-line-i-eq-COMMENT.true)
      | then-line-i-eq-COMMENT-via-else-line-i-eq-COMMENT+then-is_blank w ↦ or-second (eqb (get_or line c.loop-i.i 0) comment) _ (sym w.is_blank.ensures ∙ w.if-is_blank.true)
    ] in
    record { low = omega arith; high = omega arith; words = c.loop-i.invariant ∙ at-stop line c.loop-i.i c.loop-i-test.true (part line c.args.at c.loop-i.i) stop; stops = λ _. stop }

pub loop-i-init : goal.loop-i-init
loop-i-init c = let e : c.args.at - c.args.at ≡ 0 = omega arith in rw e

pub loop-i-preserved : goal.loop-i-preserved
loop-i-preserved c =
    let b = sym c.is_blank.ensures ∙ c.if-is_blank.false in
    rw add-one (c.loop-i.invariant ∙ pass_on c.args.line.now c.loop-i.i c.loop-i-test.true c.args.at (omega arith) (ne_eqb _ _ c.if-line-i-eq-COMMENT.false) b)

pub returns : goal.returns
returns c =
    let line = c.args.line.now in
    let e : c.loop-i.i ≡ length line = omega (arith, c.loop-i-test.false) in
    record { low = omega arith; high = omega arith; words = rw e at (c.loop-i.invariant ∙ at-end line c.loop-i.i (part line c.args.at c.loop-i.i) e); stops = λ h. absurd (omega (arith, h)) }
