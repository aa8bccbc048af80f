-- Kinds 1 and 3 judge a state by its number failed alone: of the states with j failed all work or none does. Assumes nothing.
use mathlib.Core.Path.{◌≡◌, refl, sym, ◌∙◌}
use mathlib.Core.Bool.{Bool, true, false, cond, not, ◌&&◌, and-false}
use mathlib.Core.Logic.{◌⊎◌, inl, inr}
use mathlib.Core.List.{List}
use Prim.Native.Nat.{ℕ, ◌^◌}
use lib.Dec.{leb, eqb}
use lib.Count.{ones}
use borrow.Author.Tests.{eqb-true}
use Rattle.rules.specs.declared.Rule.{Rule}
use Rattle.rules.specs.Below.{held, within}
use Rattle.rules.specs.Verdict.{fails}
use Rattle.rules.specs.Count.{count_if, count_of}
use Rattle.rules.proofs.Sums.{held_same}
use Rattle.rules.proofs.Words.{held_none}
use Rattle.counts.specs.Ways.{fails_at, entry_of}

-- a test that goes with a number is the test at that number
at-number : (p : ℕ → Bool) (x j : ℕ) → p x && eqb x j ≡ p j && eqb x j
at-number p x j = go (eqb x j) refl
  where
    go : (t : Bool) → eqb x j ≡ t → p x && t ≡ p j && t
    go true e = rw (eqb-true x j e)
    go false e = and-false (p x) ∙ sym (and-false (p j))

count-by-ones : (failing : ℕ → Bool) (n j : ℕ) → count_if (λ w. not (failing (ones w))) n j ≡ cond (failing j) 0 (count_if (λ w. true) n j)
unfolding count_if
count-by-ones failing n j =
    held_same _ _ (2 ^ n) (λ w l. at-number (λ x. not (failing x)) (ones w) j) ∙ go (failing j)
  where
    go : (t : Bool) → held (λ w. not t && eqb (ones w) j) (2 ^ n) ≡ cond t 0 (held (λ w. true && eqb (ones w) j) (2 ^ n))
    go true = held_none _ (2 ^ n) (λ w l. refl)
    go false = refl

-- entry j of the count table
pub entry-count : (rule : Rule) (n : ℕ) (weights : List ℕ) (j : ℕ) → (rule.kind ≡ 1) ⊎ (rule.kind ≡ 3) → entry_of rule n j ≡ count_of rule n weights j
unfolding fails fails_at entry_of
entry-count rule n weights j (inl e) = rw e (sym (count-by-ones (λ x. leb rule.first x) n j))
entry-count rule n weights j (inr e) = rw e (sym (count-by-ones (λ x. within rule.first x rule.second) n j))
