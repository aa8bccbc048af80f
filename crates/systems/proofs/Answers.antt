-- What a file and a system number answer: the file's refusal, then 14, and past both the system's own answer, figures or worth alike. By the cases of
-- the two refusals. Assumes nothing.
use mathlib.Core.Path.{◌≡◌, refl, sym, ap, ◌∙◌}
use mathlib.Core.Bool.{Bool, true, false, cond, not}
use mathlib.Core.List.{List}
use Prim.Native.Nat.{ℕ, zero, suc, ◌-◌, ◌≤◌}
use native.Mathlib.Omega.{arith}
use borrow.Author.Tests.{not-false}
use Rattle.rules.specs.Below.{within}
use Rattle.rules.specs.Refusal.{after}
use Rattle.rules.specs.Answer.{unless}
use Rattle.rules.specs.File.{file_refusal, bad_number}
use Rattle.std.proofs.Common.{Result, Ok, Err}
use Rattle.rules.specs.declared.refusal.Refusal.{Refusal}
use Rattle.deck.specs.declared.Head.{Head}
use Rattle.deck.specs.Outcome.{Opens, Placed}
use Rattle.deck.proofs.Outcome.{opened-accepted, opened-headed, opened-refused}
use Rattle.rules.proofs.EachKind.{within-true}
use Rattle.rules.proofs.Unless.{after_none, after-some}
use Rattle.systems.specs.Opened.{open_refusal}

both-refusals : {A : Type 0} (refused : ℕ → A) (answer : A) (r : ℕ) (b : Bool)
    → unless r refused (cond b (refused 14) answer) ≡ unless (after r (cond b 14 0)) refused answer
unfolding unless after
both-refusals refused answer zero true = refl
both-refusals refused answer zero false = refl
both-refusals refused answer (suc r) b = refl

-- no refusal of the number: it is within
fourteen : (b : Bool) → ◌≡◌ {A = ℕ} (cond b 14 0) 0 → b ≡ false
fourteen true e = absurd (omega arith)
fourteen false e = refl

module _ {bytes : List ℕ} (s : ℕ) where
  -- beside a refusal no number is looked at, and without one the head's count is the file's
  opened-refusal : (opened : Result Head Refusal) → Opens bytes opened → after (file_refusal bytes) (cond (bad_number bytes s) 14 0) ≡ open_refusal opened s
  opened-refusal (Ok head) opens = after_none _ _ (opened-accepted opens) ∙ ap (λ (h : Head). cond (not (within 1 s h.systems)) 14 0) (sym opens.head)
  opened-refusal (Err refused) opens = after-some _ _ (opened-refused opens) ∙ sym opens.refusal

  pub opened-answer : {A : Type 0} {opened : Result Head Refusal} → Opens bytes opened → (refused : ℕ → A) (answer : A)
      → unless (file_refusal bytes) refused (cond (bad_number bytes s) (refused 14) answer) ≡ unless (open_refusal opened s) refused answer
  opened-answer {opened = opened} opens refused answer =
      both-refusals refused answer (file_refusal bytes) (bad_number bytes s) ∙ ap (λ r. unless r refused answer) (opened-refusal opened opens)

  -- past both the number is that of one of the file's systems
  pub numbered : {opened : Result Head Refusal} {head : Head} → Opens bytes opened → opened ≡ Ok head → open_refusal opened s ≡ 0 → (1 ≤ s) × Placed bytes head (s - 1)
  numbered {head = head} opens is none =
      let l = within-true 1 s head.systems (not-false _ (fourteen _ (rw is at none))) in
      (l.0, record { headed = opened-headed (rw is at opens); place = omega (arith, l) })
