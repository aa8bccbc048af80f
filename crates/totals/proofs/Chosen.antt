-- One more at a list's end: what is chosen of it, counted and added up. Assumes nothing.
use mathlib.Core.Path.{◌≡◌, refl, ap, ◌∙◌}
use mathlib.Core.Bool.{Bool, true, false, cond}
use mathlib.Core.List.{List, [], ◌∷◌, ◌++◌, append-nil, map}
use Prim.Native.Nat.{ℕ, ◌+◌}
use native.Mathlib.Omega.{arith}
use lib.ListN.{length, length-append}
use Rattle.rules.specs.Below.{total}
use Rattle.totals.specs.Season.{chosen}
use Rattle.totals.specs.Plus.{one_if}

module _ {A : Type 0} (test : A → Bool) where
  pub chosen-append : (xs ys : List A) → chosen test (xs ++ ys) ≡ chosen test xs ++ chosen test ys
  unfolding chosen
  chosen-append [] ys = refl
  chosen-append (x ∷ xs) ys = go (test x) (chosen-append xs ys)
    where
      go : (b : Bool) → chosen test (xs ++ ys) ≡ chosen test xs ++ chosen test ys
          → cond b (x ∷ chosen test (xs ++ ys)) (chosen test (xs ++ ys)) ≡ cond b (x ∷ chosen test xs) (chosen test xs) ++ chosen test ys
      go true e = ap (λ zs. x ∷ zs) e
      go false e = e

  one-chosen : (x : A) (b : Bool) → test x ≡ b → chosen test (x ∷ []) ≡ cond b (x ∷ []) []
  unfolding chosen
  one-chosen x b e = rw e

  -- one that passes, and one that does not
  pub chosen-in : (xs : List A) (x : A) → test x ≡ true → chosen test (xs ++ x ∷ []) ≡ chosen test xs ++ x ∷ []
  chosen-in xs x e = chosen-append xs (x ∷ []) ∙ ap (λ zs. chosen test xs ++ zs) (one-chosen x true e)

  pub chosen-out : (xs : List A) (x : A) → test x ≡ false → chosen test (xs ++ x ∷ []) ≡ chosen test xs
  chosen-out xs x e = chosen-append xs (x ∷ []) ∙ ap (λ zs. chosen test xs ++ zs) (one-chosen x false e) ∙ append-nil (chosen test xs)

  -- how many
  pub count-plus : (xs : List A) (x : A) (b : Bool) → test x ≡ b → length (chosen test xs) + one_if b ≡ length (chosen test (xs ++ x ∷ []))
  count-plus xs x true e = rw (chosen-in xs x e, length-append (chosen test xs) (x ∷ []))
  count-plus xs x false e = rw (chosen-out xs x e) (omega arith)

  -- and what they come to
  module _ (f : A → ℕ) where
    total-append : (xs : List A) (x : A) → total (map f (xs ++ x ∷ [])) ≡ total (map f xs) + f x
    unfolding total
    total-append [] x = omega arith
    total-append (y ∷ xs) x = omega (arith, total-append xs x)

    pub total-plus : (xs : List A) (x : A) (b : Bool) → test x ≡ b → total (map f (chosen test xs)) + cond b (f x) 0 ≡ total (map f (chosen test (xs ++ x ∷ [])))
    total-plus xs x true e = rw (chosen-in xs x e, total-append (chosen test xs) x)
    total-plus xs x false e = rw (chosen-out xs x e) (omega arith)
