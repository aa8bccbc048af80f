-- A statement about every kind from 1 to 8 is eight statements; a rule in range has such a kind. Assumes nothing.
use mathlib.Core.Path.{◌≡◌}
use mathlib.Core.Bool.{true, false≢true}
use mathlib.Core.List.{List}
use Prim.Native.Nat.{ℕ, zero, suc, ◌≤◌}
use native.Mathlib.Omega.{arith}
use lib.Dec.{leb}
use borrow.Author.Tests.{leb-true}
use Rattle.rules.specs.declared.Rule.{Rule}
use Rattle.rules.specs.Below.{within}
use Rattle.rules.specs.State.{rule_of}
use Rattle.rules.specs.Refusal.{last_kind, ranged}
use Rattle.rules.proofs.Tests.{both}

pub each-kind : (P : ℕ → Type 0) → P 1 → P 2 → P 3 → P 4 → P 5 → P 6 → P 7 → P 8 → (kind : ℕ) → 1 ≤ kind → kind ≤ last_kind → P kind
each-kind P a b c d e f g h zero l m = absurd (omega arith)
each-kind P a b c d e f g h (suc zero) l m = a
each-kind P a b c d e f g h (suc (suc zero)) l m = b
each-kind P a b c d e f g h (suc (suc (suc zero))) l m = c
each-kind P a b c d e f g h (suc (suc (suc (suc zero)))) l m = d
each-kind P a b c d e f g h (suc (suc (suc (suc (suc zero))))) l m = e
each-kind P a b c d e f g h (suc (suc (suc (suc (suc (suc zero)))))) l m = f
each-kind P a b c d e f g h (suc (suc (suc (suc (suc (suc (suc zero))))))) l m = g
each-kind P a b c d e f g h (suc (suc (suc (suc (suc (suc (suc (suc zero)))))))) l m = h
each-kind P a b c d e f g h (suc (suc (suc (suc (suc (suc (suc (suc (suc kind))))))))) l m = absurd (omega arith)

-- a number that a range holds
pub within-true : (a x b : ℕ) → within a x b ≡ true → (a ≤ x) × (x ≤ b)
within-true a x b e = let h = both (leb a x) (leb x b) e in (leb-true _ _ h.0, leb-true _ _ h.1)

kind-in : (n t : ℕ) (more : List ℕ) (kind first second : ℕ) → ranged (rule_of kind first second) n t more ≡ true → (1 ≤ kind) × (kind ≤ last_kind)
unfolding ranged
kind-in n t more zero first second e = absurd (false≢true e)
kind-in n t more (suc zero) first second e = (omega arith, omega arith)
kind-in n t more (suc (suc zero)) first second e = (omega arith, omega arith)
kind-in n t more (suc (suc (suc zero))) first second e = (omega arith, omega arith)
kind-in n t more (suc (suc (suc (suc zero)))) first second e = (omega arith, omega arith)
kind-in n t more (suc (suc (suc (suc (suc zero))))) first second e = (omega arith, omega arith)
kind-in n t more (suc (suc (suc (suc (suc (suc zero)))))) first second e = (omega arith, omega arith)
kind-in n t more (suc (suc (suc (suc (suc (suc (suc zero))))))) first second e = (omega arith, omega arith)
kind-in n t more (suc (suc (suc (suc (suc (suc (suc (suc zero)))))))) first second e = (omega arith, omega arith)
kind-in n t more (suc (suc (suc (suc (suc (suc (suc (suc (suc kind))))))))) first second e = absurd (false≢true e)

pub range-kind : (rule : Rule) (n t : ℕ) (more : List ℕ) → ranged rule n t more ≡ true → (1 ≤ rule.kind) × (rule.kind ≤ last_kind)
range-kind rule n t more = kind-in n t more rule.kind rule.first rule.second
