-- The call's contract settles its answer, which is the definitions' worth; so two outcomes that it allows answer the same, and the table handed back clear is the
-- same in every cell. Assumes nothing.
use Prim.Native.Nat.{ℕ}
use mathlib.Core.Path.{◌≡◌}
use mathlib.Core.List.{List}
use Rattle.rules.specs.declared.Worth.{Worth}
use Rattle.rules.specs.Asked.{Asked}
use Rattle.rules.specs.Answer.{table_after}
use Rattle.rules.specs.Worth.{worth_refusal, worth_of}
use Rattle.stretches.specs.Outcome.{Used}
use Rattle.swaps.proofs.Compared.{compared, compared_is, same-compared, compared-found, returned, returned-is, same-returned}
use Rattle.worth.specs.Outcome.{Found, Answered, Weighed}

module _ {q : Asked} {fan : ℕ} {t₀ : List ℕ} where
  -- ---- the call

  pub answered : {t : List ℕ} {r : Worth} → r ≡ worth_of q fan t₀ → Used (worth_refusal q fan t₀) t₀ t → Answered q fan t₀ t r
  unfolding worth_of
  answered e used = record { outcome = compared e used }

  pub answer-is : {t : List ℕ} {r : Worth} → Answered q fan t₀ t r → r ≡ worth_of q fan t₀
  unfolding worth_of
  answer-is h = compared_is h.outcome

  pub same_answer : {t t' : List ℕ} {r r' : Worth} → Answered q fan t₀ t r → Answered q fan t₀ t' r' → (r ≡ r') × ((worth_refusal q fan t₀ ≡ 0 → ⊥) → t ≡ t')
  same_answer p p' = same-compared p.outcome p'.outcome

  pub answered-found : worth_refusal q fan t₀ ≡ 0 → {t : List ℕ} {r : Worth} → Found q fan t₀ t r → Answered q fan t₀ t r
  answered-found none f = record { outcome = compared-found none f.ends f.kept }

  -- ---- the table handed back clear

  pub weighed : {t : List ℕ} {r : Worth} → r ≡ worth_of q fan t₀ → t ≡ table_after (worth_refusal q fan t₀) t₀ → Weighed q fan t₀ t r
  unfolding worth_of
  weighed e d = record { outcome = returned e d }

  pub worth-is : {t : List ℕ} {r : Worth} → Weighed q fan t₀ t r → r ≡ worth_of q fan t₀
  unfolding worth_of
  worth-is h = returned-is h.outcome

  pub same-worth : {t t' : List ℕ} {r r' : Worth} → Weighed q fan t₀ t r → Weighed q fan t₀ t' r' → (r ≡ r') × (t ≡ t')
  same-worth p p' = same-returned p.outcome p'.outcome
