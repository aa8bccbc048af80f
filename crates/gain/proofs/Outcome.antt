-- The call's contract settles its answer, which is the definitions' gain; so two outcomes that it allows answer the same, and the table handed back clear is the
-- same in every cell. Assumes nothing.
use Prim.Native.Nat.{ℕ, ◌≤◌}
use mathlib.Core.Path.{◌≡◌}
use mathlib.Core.Bool.{Bool, true}
use mathlib.Core.List.{List}
use lib.ListN.{length}
use Rattle.rules.specs.declared.Spare.{Spare}
use Rattle.rules.specs.declared.Worth.{Worth}
use Rattle.rules.specs.Asked.{Asked}
use Rattle.rules.specs.Refusal.{cells}
use Rattle.rules.specs.Answer.{table_after}
use Rattle.rules.specs.Gain.{gain_refusal, gain_of}
use Rattle.stretches.specs.Outcome.{Used}
use Rattle.swaps.specs.Compared.{is_ends}
use Rattle.swaps.proofs.Compared.{compared, compared_is, same-compared, compared-found, clear-fits, returned, returned-is, same-returned}
use Rattle.gain.specs.Outcome.{Found, Answered, Gained}
use Rattle.gain.proofs.Asking.{room}

module _ {q : Asked} {w : Spare} {t₀ : List ℕ} where
  -- ---- the call

  pub answered : {t : List ℕ} {r : Worth} → r ≡ gain_of q w.fan w.p t₀ → Used (gain_refusal q w.fan w.p t₀) t₀ t → Answered q w t₀ t r
  unfolding gain_of
  answered e used = record { outcome = compared e used }

  pub answer-is : {t : List ℕ} {r : Worth} → Answered q w t₀ t r → r ≡ gain_of q w.fan w.p t₀
  unfolding gain_of
  answer-is h = compared_is h.outcome

  pub same_answer : {t t' : List ℕ} {r r' : Worth} → Answered q w t₀ t r → Answered q w t₀ t' r' → (r ≡ r') × ((gain_refusal q w.fan w.p t₀ ≡ 0 → ⊥) → t ≡ t')
  same_answer p p' = same-compared p.outcome p'.outcome

  pub answered-found : gain_refusal q w.fan w.p t₀ ≡ 0 → {t : List ℕ} {r : Worth} → Found q w t₀ t r → Answered q w t₀ t r
  answered-found none f = record { outcome = compared-found none f.ends f.kept }

  -- after an answer there are cells to be cleared
  pub fits : {t : List ℕ} {r : Worth} → Answered q w t₀ t r → {b : Bool} → b ≡ is_ends r → b ≡ true → cells ≤ length t
  fits h is = clear-fits h.outcome is (room q w t₀)

  -- ---- the table handed back clear

  pub gained : {t : List ℕ} {r : Worth} → r ≡ gain_of q w.fan w.p t₀ → t ≡ table_after (gain_refusal q w.fan w.p t₀) t₀ → Gained q w t₀ t r
  unfolding gain_of
  gained e d = record { outcome = returned e d }

  pub gain-is : {t : List ℕ} {r : Worth} → Gained q w t₀ t r → r ≡ gain_of q w.fan w.p t₀
  unfolding gain_of
  gain-is h = returned-is h.outcome

  pub same-gain : {t t' : List ℕ} {r r' : Worth} → Gained q w t₀ t r → Gained q w t₀ t' r' → (r ≡ r') × (t ≡ t')
  same-gain p p' = same-returned p.outcome p'.outcome
