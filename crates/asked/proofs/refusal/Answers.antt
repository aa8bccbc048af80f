-- `refusal` asks for each part of `figuresRefusal` in its order: past one that answers no, the refusal is that of the parts
-- that are left. Assumes nothing.
use mathlib.Core.Path.{◌≡◌, sym, ◌∙◌}
use mathlib.Core.Bool.{false}
use mathlib.Core.List.{List, [], ◌∷◌}
use Prim.Native.Nat.{ℕ}
use borrow.Author.Tests.{lt-ltb, le-ltb}
use Rattle.rules.specs.Asked.{Asked, question_in, asked_with, length_of}
use Rattle.rules.specs.declared.refusal.Refusal.{Refusal}
use Rattle.rules.specs.Refusal.{number, bad_version, after, short_table, first_of, figures_refusal}
use Rattle.rules.proofs.Accepted.{first-of, first-after}
use Rattle.rules.proofs.Numbers.{number-some, handed_on}
use Rattle.rules.proofs.Unless.{after_none, after-some}
use Rattle.asked.specs.Parts.{place_refusal, lists_refusal, part_refusal}
use Rattle.asked.proofs.Refused.{placed, past-version}
use Rattle.asked.proofs.refusal.Goals as goal
use Rattle.asked.proofs.refusal.Goals.{After-version_out}

-- what is asked
abbrev asked : After-version_out → Asked
asked c =
    let x = c.args in
    asked_with x.question x.lists.now

module _ (q : Asked) (table : List ℕ) where
  abbrev refused : ℕ
  refused = figures_refusal q table

  -- the parts that are asked for, one after another
  abbrev place : ℕ
  place = place_refusal q.rule q.a q.b (length_of q)

  abbrev lists : ℕ
  lists = lists_refusal (question_in q) q.survival q.boards q.switchboards

  abbrev part : ℕ
  part = part_refusal q.rule q.a q.b (length_of q) q.weights q.more

  abbrev last : ℕ
  last = first_of ((7, short_table table) ∷ [])

  -- what is left past each of them
  past1 : bad_version q.version ≡ false → refused ≡ after place (after lists (after part last))
  past1 version = past-version q table version

  past2 : bad_version q.version ≡ false → place ≡ 0 → refused ≡ after lists (after part last)
  past2 version e = past1 version ∙ after_none _ _ e

  past3 : bad_version q.version ≡ false → place ≡ 0 → lists ≡ 0 → refused ≡ after part last
  past3 version e f = past2 version e ∙ after_none _ _ f

  past4 : bad_version q.version ≡ false → place ≡ 0 → lists ≡ 0 → part ≡ 0 → refused ≡ last
  past4 version e f g = past3 version e f ∙ after_none _ _ g

-- a refusal by a part is the first of what is left
given : (rest : ℕ) (r : Refusal) {part whole : ℕ} → number r ≡ part → whole ≡ after part rest → number r ≡ whole
given rest r e h = e ∙ sym (h ∙ after-some _ _ (λ none. number-some r (e ∙ none)))

pub returns-then-version_out : goal.returns-then-version_out
unfolding figures_refusal
returns-then-version_out c = sym (first-of 11 _ _ (sym c.version_out.ensures ∙ c.if-version_out.true))

pub returns-in_err-place_refusal : goal.returns-in_err-place_refusal
returns-in_err-place_refusal c =
    let q = asked ((goal.at.returns-in_err-place_refusal c).After-version_out) in
    handed_on _ _ c.from_residual.ensures.1
    (given _ _ c.in_err-place_refusal.ensures (past1 q c.args.table.now (sym c.version_out.ensures ∙ c.if-version_out.false)))

pub lists_refusal-requires : goal.lists_refusal-requires
lists_refusal-requires c = (placed _ _ _ _ (sym c.in_ok-place_refusal.ensures)).inside

pub returns-in_err-lists_refusal : goal.returns-in_err-lists_refusal
returns-in_err-lists_refusal c =
    let q = asked ((goal.at.returns-in_err-lists_refusal c).After-version_out) in
    handed_on _ _ c.from_residual-in_err-lists_refusal.ensures.1
    (given _ _ c.in_err-lists_refusal.ensures
    (past2 q c.args.table.now (sym c.version_out.ensures ∙ c.if-version_out.false) (sym c.in_ok-place_refusal.ensures)))

pub returns-in_err-part_refusal : goal.returns-in_err-part_refusal
returns-in_err-part_refusal c =
    let q = asked ((goal.at.returns-in_err-part_refusal c).After-version_out) in
    handed_on _ _ c.from_residual-in_err-part_refusal.ensures.1
    (given _ _ c.in_err-part_refusal.ensures
    (past3 q c.args.table.now (sym c.version_out.ensures ∙ c.if-version_out.false) (sym c.in_ok-place_refusal.ensures) (sym c.in_ok-lists_refusal.ensures)))

pub returns-then-table-lt-CELLS : goal.returns-then-table-lt-CELLS
returns-then-table-lt-CELLS c =
    let q = asked ((goal.at.returns-then-table-lt-CELLS c).After-version_out) in
    sym (past4 q c.args.table.now (sym c.version_out.ensures ∙ c.if-version_out.false) (sym c.in_ok-place_refusal.ensures)
    (sym c.in_ok-lists_refusal.ensures) (sym c.in_ok-part_refusal.ensures)
    ∙ first-of 7 _ [] (lt-ltb _ _ c.if-table-lt-CELLS.true))

pub returns : goal.returns
unfolding first_of
returns c =
    let q = asked ((goal.at.returns c).After-version_out) in
    sym (past4 q c.args.table.now (sym c.version_out.ensures ∙ c.if-version_out.false) (sym c.in_ok-place_refusal.ensures)
    (sym c.in_ok-lists_refusal.ensures) (sym c.in_ok-part_refusal.ensures)
    ∙ first-after 7 _ [] (le-ltb _ _ c.if-table-lt-CELLS.false))
