-- Every lookup answers what it did with the whole table: the entry of either table is the count of words. Assumes nothing.
use mathlib.Core.Path.{◌≡◌, sym, ◌∙◌}
use mathlib.Core.Bool.{true, cond}
use mathlib.Core.List.{List}
use Prim.Native.Nat.{ℕ, ◌≤◌}
use lib.Dec.{leb}
use borrow.Author.Tests.{leb-true, leb-false}
use Rattle.rules.proofs.Tests.{by-test}
use Rattle.rules.proofs.Words.{count-above}
use Rattle.pascal.specs.Ways.{ways_of}
use Rattle.pascal.specs.Folded.{folded_rule}
use Rattle.pascal.proofs.Whole.{whole_rule, whole_entry, whole-ways}
use Rattle.pascal.proofs.Folded.{folded_entry, folded-ways}

module _ (old : List ℕ) (passed : whole_rule old ≡ true) (n : ℕ) (row : n ≤ 64) where
  -- each entry of a row, folded or whole
  pub entry-as-before : (new : List ℕ) → folded_rule new ≡ true → (j : ℕ) → j ≤ n → folded_entry new n j ≡ whole_entry old n j
  entry-as-before new tested j l = folded-ways new tested n j row l ∙ sym (whole-ways old passed n j row l)

  -- what `ways` answers, past the end of the row too
  pub lookup-as-before : (j : ℕ) → ways_of n j ≡ cond (leb j n) (whole_entry old n j) 0
  lookup-as-before j =
      by-test (λ x. ways_of n j ≡ x) (leb j n) (whole_entry old n j) 0
      (λ e. sym (whole-ways old passed n j row (leb-true _ _ e)))
      (λ e. count-above (λ w. true) n j (leb-false _ _ e))
