-- Kinds 1 to 3: reading through the memory is the verdict on the number failed, or on the weights of the failed ones.
-- With i components left the number in memory and what the places below i add to it decide. Kind 1 is kind 2 with every weight 1.
-- Assumes nothing.
use mathlib.Core.Path.{◌≡◌, sym, ap, ◌∙◌}
use mathlib.Core.Bool.{cond, not}
use mathlib.Core.List.{List}
use Prim.Native.Nat.{ℕ, zero, suc, ◌+◌, ◌^◌, ◌<◌}
use native.Mathlib.Omega.{arith}
use native.Mathlib.Nat.{add-zero, zero-add}
use lib.Dec.{ltb}
use lib.Count.{ones}
use borrow.Author.Tests.{ltb-true, ltb-false, lt-ltb, le-ltb}
use Rattle.rules.specs.Below.{sum_below, held, within}
use Rattle.rules.specs.State.{down, number_of}
use Rattle.rules.specs.Verdict.{weight_down, fails1, fails2, fails3}
use Rattle.rules.specs.Memory.{run, live, moved, ended, machine_of, row1, row3}
use Rattle.rules.proofs.Sums.{held-sum}
use Rattle.rules.proofs.Bits.{ones-held}
use Rattle.rules.proofs.Tests.{by-test, by_both, not-leb}
use Rattle.rules.proofs.Dead.{row-run}

-- what the failed ones among the places below i add
abbrev added : (weight : ℕ → ℕ) (w i : ℕ) → ℕ
added weight w i = sum_below i (λ d. cond (down d w) (weight (suc d)) 0)

module _ (weight : ℕ → ℕ) (k w : ℕ) where
  weighed-run : (i c : ℕ) → c < k → run (machine_of (row1 k weight)) i (live c) w ≡ ltb (c + added weight w i) k
  unfolding run moved ended sum_below
  weighed-run zero c l = sym (rw add-zero (lt-ltb c k l))
  weighed-run (suc i) c l =
      let more = c + weight (suc i) in
      by_both (λ m x. run (machine_of (row1 k weight)) i m w ≡ ltb (c + (added weight w i + x)) k) (down i w) _ _ _ _
      (λ d. by-test (λ m. run (machine_of (row1 k weight)) i m w ≡ ltb (c + (added weight w i + weight (suc i))) k) (ltb more k) _ _
      (λ e. weighed-run i more (ltb-true _ _ e) ∙ ap (λ x. ltb x k) (omega arith))
      (λ e. row-run (row1 k weight) i w ∙ sym (le-ltb _ k (omega (arith, ltb-false more k e)))))
      (λ d. rw add-zero (weighed-run i c l))

counted-run : (l h w i c : ℕ) → run (machine_of (row3 l h)) i (live c) w ≡ not (within l (c + held (λ d. down d w) i) h)
unfolding run moved ended held
counted-run l h w zero c = rw add-zero
counted-run l h w (suc i) c =
    by_both (λ m x. run (machine_of (row3 l h)) i m w ≡ not (within l (c + (held (λ d. down d w) i + x)) h)) (down i w) _ _ _ _
    (λ d. counted-run l h w i (suc c) ∙ ap (λ x. not (within l x h)) (omega arith))
    (λ d. rw add-zero (counted-run l h w i c))

pub kind1 : (n k w : ℕ) → 0 < k → w < 2 ^ n → run (machine_of (row1 k (λ i. 1))) n (live 0) w ≡ not (fails1 k w)
kind1 n k w pos small =
    weighed-run (λ i. 1) k w n 0 pos
    ∙ ap (λ x. ltb x k) (zero-add _ ∙ sym (held-sum (λ d. down d w) n) ∙ sym (ones-held w n small))
    ∙ not-leb (ones w) k

pub kind2 : (n k : ℕ) (weights : List ℕ) (w : ℕ) → 0 < k → run (machine_of (row1 k (number_of weights))) n (live 0) w ≡ not (fails2 k n weights w)
unfolding weight_down
kind2 n k weights w pos = weighed-run (number_of weights) k w n 0 pos ∙ ap (λ x. ltb x k) (zero-add _) ∙ not-leb _ k

pub kind3 : (n l h w : ℕ) → w < 2 ^ n → run (machine_of (row3 l h)) n (live 0) w ≡ not (fails3 l h w)
kind3 n l h w small =
    counted-run l h w n 0 ∙ ap (λ x. not (within l x h)) (zero-add _ ∙ sym (ones-held w n small))
