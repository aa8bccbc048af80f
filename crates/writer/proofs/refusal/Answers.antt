-- `writer::refusal` meets its contract: past a check that answered no, the refusal is that of the checks after it. Assumes nothing.
use mathlib.Core.Path.{refl, sym, ap, ◌∙◌}
use mathlib.Core.Bool.{not}
use mathlib.Core.List.{[]}
use lib.ListN.{length}
use borrow.Author.Tests.{lt-ltb, le-ltb, eq-eqb, ne_eqb, not-false}
use Rattle.rules.specs.File.{most_fans}
use Rattle.rules.specs.Writing.{typed_of, write_refusal}
use Rattle.rules.proofs.EachKind.{within-true}
use Rattle.rules.proofs.Numbers.{number-some, handed_on}
use Rattle.rules.proofs.Unless.{after_none, after-some}
use Rattle.rules.proofs.Accepted.{first-of, first-after}
use Rattle.board_lists.proofs.Laws.{none_left}
use Rattle.writer.proofs.Writable.{bytes-long, few-typed, fans-typed, fives}
use Rattle.writer.proofs.Checks.{boards-are, typed-sound}
use borrow.Author.Rules.{rules}
use Rattle.writer.proofs.refusal.Goals as goal

pub returns-then-version_out : goal.returns-then-version_out
unfolding write_refusal
returns-then-version_out c = sym (first-of 11 _ _ (sym c.version_out.ensures ∙ c.if-version_out.true))

pub returns-then-size_out : goal.returns-then-size_out
unfolding write_refusal
returns-then-size_out c = sym (first-after 11 _ _ (sym c.version_out.ensures ∙ c.if-version_out.false) ∙ first-of 2 _ _ (sym c.size_out.ensures ∙ c.if-size_out.true))

pub returns-then-unpaired : goal.returns-then-unpaired
unfolding write_refusal
returns-then-unpaired c =
    sym (first-after 11 _ _ (sym c.version_out.ensures ∙ c.if-version_out.false) ∙ first-after 2 _ _ (sym c.size_out.ensures ∙ c.if-size_out.false) ∙ first-of 5 _ _ (ap not (ne_eqb _ _ c.if-unpaired.true)))

pub returns-then-bad_systems : goal.returns-then-bad_systems
unfolding write_refusal
returns-then-bad_systems c =
    sym (first-after 11 _ _ (sym c.version_out.ensures ∙ c.if-version_out.false) ∙ first-after 2 _ _ (sym c.size_out.ensures ∙ c.if-size_out.false) ∙ first-after 5 _ _ (ap not (eq-eqb _ _ c.if-unpaired.false)) ∙ first-of 12 _ _ (sym c.bad_fives-bad_systems.ensures ∙ c.if-bad_systems.true))

pub returns-in_err-refusal : goal.returns-in_err-refusal
returns-in_err-refusal c =
    let t = typed_of c.args.version c.args.survival.now c.args.weights.now c.args.boards.now c.args.switchboards.now c.args.systems.now in
    let boarded = boards-are t c.in_err-refusal.ensures c.args.room.now (sym c.version_out.ensures ∙ c.if-version_out.false) (sym c.size_out.ensures ∙ c.if-size_out.false) (ap not (eq-eqb _ _ c.if-unpaired.false)) (sym c.bad_fives-bad_systems.ensures ∙ c.if-bad_systems.false) in
    handed_on _ _ c.from_residual.ensures.1 (sym (boarded ∙ after-some _ _ (number-some _)))

pub file_size-requires : goal.file_size-requires
file_size-requires c =
    let t = typed_of c.args.version c.args.survival.now c.args.weights.now c.args.boards.now c.args.switchboards.now c.args.systems.now in
    let past = typed-sound t c.in_ok-refusal.ensures refl in
    record {
      few = (within-true 1 _ most_fans (not-false _ (sym c.size_out.ensures ∙ c.if-size_out.false))).1;
      boards = few-typed c.args.version (length c.args.survival.now) c.args.boards.now c.args.switchboards.now past.0 past.1;
      fewer = (fives _ (sym c.bad_fives-bad_systems.ensures ∙ c.if-bad_systems.false)).2;
    }

pub returns-then-room-file_size : goal.returns-then-room-file_size
returns-then-room-file_size c =
    let t = typed_of c.args.version c.args.survival.now c.args.weights.now c.args.boards.now c.args.switchboards.now c.args.systems.now in
    let boarded = boards-are t c.in_ok-refusal.ensures c.args.room.now (sym c.version_out.ensures ∙ c.if-version_out.false) (sym c.size_out.ensures ∙ c.if-size_out.false) (ap not (eq-eqb _ _ c.if-unpaired.false)) (sym c.bad_fives-bad_systems.ensures ∙ c.if-bad_systems.false) in
    let past = typed-sound t c.in_ok-refusal.ensures refl in
    let placed = fans-typed c.args.version (length c.args.survival.now) c.args.boards.now c.args.switchboards.now past.0 past.1 in
    let long = c.file_size.ensures ∙ sym (bytes-long t c.if-unpaired.false placed) in
    sym (boarded ∙ after_none _ _ refl ∙ first-of 16 _ _ (lt-ltb _ _ (rw long at c.if-room-file_size.true)))

pub returns : goal.returns
returns c =
    let t = typed_of c.args.version c.args.survival.now c.args.weights.now c.args.boards.now c.args.switchboards.now c.args.systems.now in
    let boarded = boards-are t c.in_ok-refusal.ensures c.args.room.now (sym c.version_out.ensures ∙ c.if-version_out.false) (sym c.size_out.ensures ∙ c.if-size_out.false) (ap not (eq-eqb _ _ c.if-unpaired.false)) (sym c.bad_fives-bad_systems.ensures ∙ c.if-bad_systems.false) in
    let past = typed-sound t c.in_ok-refusal.ensures refl in
    let placed = fans-typed c.args.version (length c.args.survival.now) c.args.boards.now c.args.switchboards.now past.0 past.1 in
    let long = c.file_size.ensures ∙ sym (bytes-long t c.if-unpaired.false placed) in
    sym (boarded ∙ after_none _ _ refl ∙ first-after 16 _ [] (le-ltb _ _ (rw long at c.if-room-file_size.false)) ∙ none_left)
