-- `number::up_to` meets its contract: the first byte that is the mark stands behind all that are none. Assumes nothing.
use mathlib.Core.Path.{◌≡◌, refl, sym, ◌∙◌}
use mathlib.Core.Bool.{Bool, true, false, cond}
use mathlib.Core.List.{List, [], ◌∷◌}
use Prim.Native.Nat.{ℕ, suc, ◌+◌, ◌≤◌}
use native.Mathlib.Omega.{arith}
use native.Mathlib.Numerals.{add-one}
use borrow.Author.Rules.{rules}
use borrow.Author.Tests.{tests, eq-eqb, ne_eqb}
use lib.Dec.{eqb}
use lib.ListN.{length}
use Rattle.std.proofs.lemmas.Iterator.{IsFirst-from_position, index_from_first, YieldsList-from_slice}
use Rattle.naming.specs.Named.{up_to}
use Rattle.naming.proofs.number.up_to.Goals as goal

up_to-within : (mark : ℕ) (word : List ℕ) → up_to mark word ≤ length word
unfolding up_to
up_to-within mark [] = omega arith
up_to-within mark (b ∷ bs) = go (eqb b mark) (up_to-within mark bs)
  where
    go : (t : Bool) → up_to mark bs ≤ length bs → cond t 0 (suc (up_to mark bs)) ≤ suc (length bs)
    go true h = omega arith
    go false h = omega arith

hit : (mark x : ℕ) (xs : List ℕ) → x ≡ mark → up_to mark (x ∷ xs) ≡ 0
unfolding up_to
hit mark x xs e = rw (eq-eqb x mark e)

miss : (mark x : ℕ) (xs : List ℕ) → (x ≡ mark → ⊥) → up_to mark (x ∷ xs) ≡ up_to mark xs + 1
unfolding up_to
miss mark x xs other = rw (ne_eqb x mark other) (sym (add-one _))

none : (mark : ℕ) → up_to mark [] ≡ 0
unfolding up_to
none mark = refl

pub returns : goal.returns
returns c =
    let mark = c.args.mark in
    let word = c.args.word.now in
    let found = IsFirst-from_position _ _ _ (λ b. b ≡ mark) (λ b. b ≡ mark → ⊥) c.position.ensures.ran (YieldsList-from_slice word cc)
    (λ x q k. search (rules, tests)) (λ x q k. search (rules, tests)) in
    let is : c.unwrap_or.result ≡ up_to mark word = c.unwrap_or.ensures ∙ sym (index_from_first (up_to mark) _ _ (none mark) (hit mark) (miss mark) word _ found) in
    (is, omega (arith, is, up_to-within mark word))
