-- The public call: what a call that is not refused is known by, and that either way ends as document 01 has it.
-- Assumes nothing.
use mathlib.Core.Path.{◌≡◌, refl, sym, ap, ◌∙◌}
use mathlib.Core.Bool.{Bool, true, false, cond}
use mathlib.Core.List.{List, [], ◌∷◌, ◌++◌}
use Prim.Native.Nat.{ℕ, zero, suc}
use native.Mathlib.Omega.{arith}
use lib.ListN.{length, drop, replicate}
use borrow.Author.Tests.{ltb-false, eqb-false}
use Rattle.rules.specs.declared.Rule.{Rule}
use Rattle.rules.specs.declared.Counting.TheVariants as counting
use Rattle.rules.specs.Count.{counts_of}
use Rattle.rules.specs.Refusal.{after, not_counted, cells, short_table, short_room, first_of, count_refusal}
use Rattle.rules.specs.Answer.{unless, room_after}
use Rattle.rules.proofs.Accepted.{none_first, beside-weights}
use Rattle.refusals.specs.Shared.{rule_refusal}
use Rattle.rules.proofs.Unless.{unless-none, unless-some}
use Rattle.rules.proofs.Answer.{counts}
use Rattle.refusals.proofs.Laws.{count-after, accepted}
use Rattle.counts.specs.Tally.{refusal_of, Countable, Tallied}
use Rattle.counts.specs.Outcome.{Outcome}
use Rattle.bins.proofs.Cells.{outside-drop, stored-list}

neither-refused : (b : Bool) (next : ℕ) → cond b 15 next ≡ 0 → (b ≡ false) × (next ≡ 0)
neither-refused true next e = absurd (omega arith)
neither-refused false next e = (refl, e)

none-of-both : (r next : ℕ) → after r next ≡ 0 → (r ≡ 0) × (next ≡ 0)
unfolding after
none-of-both zero next e = (refl, e)
none-of-both (suc r) next e = absurd (omega arith)

module _ (rule : Rule) (n : ℕ) (weights table room : List ℕ) {number : ℕ} (e : number ≡ refusal_of rule n weights (length table) (length room)) where
  pub countable : number ≡ 0 → Countable rule n weights table room
  unfolding first_of
  countable z =
      let c = neither-refused (not_counted rule) _ (sym e ∙ z) in
      let a = none-of-both (rule_refusal rule n weights []) _ c.1 in
      let s = none_first 6 (short_table table) ((8, short_room n room) ∷ []) a.1 in
      let below = eqb-false _ _ c.0 in
      let ok = accepted rule n weights [] a.0 in
      record { accepted = rw (beside-weights rule weights [] below) at ok; counted = omega (arith, below, ok.kind_high); long = ltb-false _ _ s.0; slots = ltb-false _ _ (none_first 7 _ [] s.1).0 }

  same : number ≡ count_refusal rule n weights table room
  same = e ∙ sym (count-after rule n weights table room)

  otherwise : {A : Type 0} (f : ℕ → A) (x : A) → (number ≡ 0 → ⊥) → f number ≡ unless (count_refusal rule n weights table room) f x
  otherwise f x h = rw (← same) (sym (unless-some number f x h))

  answer : {A : Type 0} (f : ℕ → A) (x : A) → number ≡ 0 → x ≡ unless (count_refusal rule n weights table room) f x
  answer f x z = rw (← same) (sym (unless-none number f x z))

  pub refused : (number ≡ 0 → ⊥) → Outcome rule n weights table room (counting.Refused number) table room
  unfolding room_after
  refused h = record { answered = (counts _ _).1 (otherwise _ _ h); cleared = otherwise (λ r. table) _ h; written = otherwise (λ r. room) _ h }

  pub counted : {used tableExit roomExit : List ℕ} → number ≡ 0 → Tallied rule n weights table room used roomExit
      → tableExit ≡ replicate cells 0 ++ drop cells used → Outcome rule n weights table room counting.Counted tableExit roomExit
  unfolding room_after counts_of
  counted z f d =
      record {
        answered = (counts _ _).1 (answer _ _ z);
        cleared = d ∙ ap (λ x. replicate cells 0 ++ x) (outside-drop f.used) ∙ answer (λ r. table) _ z;
        written = stored-list (countable z).slots f.counts ∙ answer (λ r. room) _ z;
      }
