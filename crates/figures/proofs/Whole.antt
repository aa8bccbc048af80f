-- Document 02, request 02: "Every earlier answer stays equal to what it was". There was a call for a whole list; its list of refusals and its outcome stand
-- here, with today's range of kind 6. What the one call, handed version 1, leaves of the stretch 1 to n is what such a call leaves, for every kind but 8: answers, refusals, every
-- cell. The stretch 1 to n of a list is the list; weights of another length are refused under kind 2 and unread else. Assumes nothing.
use mathlib.Core.Path.{◌≡◌, refl, sym, ap, ◌∙◌}
use mathlib.Core.Logic.{◌⊎◌, inl, inr, ⊎_elim}
use mathlib.Core.Bool.{Bool, true, false, not, ◌||◌, ◌&&◌}
use mathlib.Core.List.{List, [], ◌∷◌}
use Prim.Native.Nat.{ℕ, suc, ◌-◌}
use native.Mathlib.Omega.{arith}
use lib.Dec.{eqb, ltb}
use lib.ListN.{length}
use borrow.Author.Tests.{eqb-true, eqb-false, not-false}
use Rattle.rules.specs.declared.Rule.{Rule}
use Rattle.rules.specs.declared.Rating.{Rating}
use Rattle.rules.specs.Below.{total}
use Rattle.rules.specs.State.{S}
use Rattle.rules.specs.Figure.{figure, low, high}
use Rattle.rules.specs.Stretch.{stretch}
use Rattle.rules.specs.Asked.{question_of, asked_of}
use Rattle.rules.specs.Refusal.{first_of, bad_size, some_above, heaviest, weights_out, bad_weights, in_range, short_table}
use Rattle.rules.specs.Answer.{Rates, table_after}
use Rattle.rules.proofs.EachKind.{within-true}
use Rattle.rules.proofs.Accepted.{first-same, first-after, none_first, weights-accepted, whole-stretch, stretch-all}
use Rattle.rules.proofs.Unread.{Unread, unread-range, unread-figure}
use Rattle.rules.proofs.Answer.{rates-same}
use Rattle.figures.specs.Outcome.{Rated}
use Rattle.figures.proofs.Earlier.{bad_kind_before, refusal_before, rated-as-before}

-- the call for a whole list, as it was: "the figures 1, 2, 3 (stretch calls), 4, 5, 6, 7", 3 left out
unfoldable pub whole_refusal : Rule → (survival weights table : List ℕ) → ℕ
whole_refusal rule survival weights table =
    first_of
    ((1, bad_kind_before rule)
    ∷ (2, bad_size (length survival))
    ∷ (4, some_above S survival)
    ∷ (5, bad_weights rule (length survival) weights weights)
    ∷ (6, not (in_range rule (length survival) weights))
    ∷ (7, short_table table)
    ∷ [])

pub record Listed (rule : Rule) (survival weights t₀ t : List ℕ) (r : Rating) : Type 0 where
  pub answer : Rates r (whole_refusal rule survival weights t₀) (low S rule survival weights) (high S rule survival weights)
  pub table : t ≡ table_after (whole_refusal rule survival weights t₀) t₀

module _ (rule : Rule) (survival weights : List ℕ) (earlier : rule.kind ≡ 8 → ⊥) where
  abbrev n : ℕ
  n = length survival

  abbrev rated : List ℕ
  rated = stretch 1 n weights

  -- the weights of the stretch are the list's where there are as many as fans
  five-same : bad_weights rule n weights weights ≡ bad_weights rule n weights rated
  unfolding weights_out
  five-same = go (eqb (length weights) n) refl
    where
      go : (t : Bool) → eqb (length weights) n ≡ t
          → (eqb rule.kind 2 && (not (eqb (length weights) n) || ltb heaviest (total weights))) ≡ (eqb rule.kind 2 && (not (eqb (length weights) n) || ltb heaviest (total rated)))
      go true e = rw (stretch-all weights n (eqb-true _ _ e))
      go false e = rw e

  -- past 5 either they are the list's, or the kind does not read them
  read_same : bad_weights rule n weights weights ≡ false → (rated ≡ weights) ⊎ Unread rule.kind
  read_same five = go (eqb rule.kind 2) refl
    where
      go : (k : Bool) → eqb rule.kind 2 ≡ k → (rated ≡ weights) ⊎ Unread rule.kind
      go true e = inl (stretch-all weights n (weights-accepted rule n (length weights) _ five (eqb-true _ _ e)).0)
      go false e = inr (record { not_two = eqb-false _ _ e; not_eight = earlier })

  six-same : bad_weights rule n weights weights ≡ false → in_range rule n weights ≡ in_range rule n rated
  six-same five = ⊎_elim (λ s. rw s) (unread-range rule n weights rated) (read_same five)

  figure-same : (up : Bool) → bad_weights rule n weights weights ≡ false → figure up S rule survival weights ≡ figure up S rule (stretch 1 n survival) rated
  figure-same up five =
      ⊎_elim (λ s. rw s) (unread-figure up S rule survival weights rated) (read_same five)
      ∙ ap (λ xs. figure up S rule xs rated) (sym (stretch-all survival n refl))

  module _ (table : List ℕ) where
    pub whole-refusal : refusal_before rule 1 n survival weights table ≡ whole_refusal rule survival weights table
    unfolding whole_refusal refusal_before
    whole-refusal =
        first-same 1 _ _ _ _ refl (λ kind. first-same 2 _ _ _ _ refl (λ size.
        let some = (within-true 1 n 64 (not-false _ size)).0 in
        let as_long : suc n - 1 ≡ n = omega arith in
        first-after 3 _ _ (whole-stretch n some)
        ∙ first-same 4 _ _ _ _ (ap (some_above S) (stretch-all survival n refl)) (λ units.
        first-same 5 _ _ _ _ (sym five-same) (λ five.
        first-same 6 _ _ _ _ (ap (λ m. not (in_range rule m rated)) as_long ∙ ap not (sym (six-same (five-same ∙ five)))) (λ six. refl)))))

    five-past : refusal_before rule 1 n survival weights table ≡ 0 → bad_weights rule n weights weights ≡ false
    unfolding refusal_before
    five-past e = five-same ∙ (none_first 4 _ _ (none_first 3 _ _ (none_first 2 _ _ (none_first 1 _ _ (none_first 0 _ _ e).1).1).1).1).0

    -- the theorem
    pub whole-as-before : (more boards switchboards : List ℕ) {t : List ℕ} {r : Rating} → Rated (asked_of (question_of 1 rule 1 n) survival weights more boards switchboards) table t r → Listed rule survival weights table t r
    whole-as-before more boards switchboards {t} {r} h =
        let v = rated-as-before rule 1 n survival weights more boards switchboards earlier h in
        record {
          answer = rates-same r whole-refusal (λ e. (sym (figure-same false (five-past e)), sym (figure-same true (five-past e)))) v.answer;
          table = v.table ∙ ap (λ q. table_after q table) whole-refusal;
        }
