-- A list made place by place: how long it is, what stands where, and which list it is; a stretch of a list with each element changed. Assumes nothing.
use mathlib.Core.Path.{◌≡◌, refl, sym, ap, ◌∙◌}
use mathlib.Core.List.{List, [], ◌∷◌, map}
use Prim.Native.Nat.{ℕ, zero, suc, ◌-◌, ◌<◌}
use native.Mathlib.Decide.{dec_lt}
use native.Mathlib.Omega.{arith}
use lib.ListN.{length, get_or, take, drop, length-append, get_or-append}
use lib.Seq.{ext_get_or, get_or_at}
use Rattle.rules.specs.Below.{list_below}
use Rattle.rules.specs.Stretch.{stretch}

module _ {A : Type 0} where
  pub below_length : (n : ℕ) (f : ℕ → A) → length (list_below n f) ≡ n
  unfolding list_below
  below_length zero f = refl
  below_length (suc n) f = length-append (list_below n f) (f n ∷ []) ∙ omega (arith, below_length n f)

  pub below_get : (n : ℕ) (f : ℕ → A) (d : A) (i : ℕ) → i < n → get_or (list_below n f) i d ≡ f i
  unfolding list_below
  below_get zero f d i h = absurd (omega arith)
  below_get (suc n) f d i h =
      elim (dec_lt i n) [
        | yes l ↦ get_or-append (list_below n f) (f n ∷ []) d i (rw (below_length n f) l) ∙ below_get n f d i l
        | no g ↦ let e : i ≡ n = omega arith in rw e (get_or_at (list_below n f) (f n) [] d n (below_length n f))
      ]

  pub below-is : (xs : List A) (d : A) (n : ℕ) (f : ℕ → A) → length xs ≡ n → ((i : ℕ) → i < n → f i ≡ get_or xs i d) → list_below n f ≡ xs
  below-is xs d n f e h =
      ext_get_or d (list_below n f) xs (below_length n f ∙ sym e)
      (λ i l. let s : i < n = rw (below_length n f) at l in below_get n f d i s ∙ h i s)

-- a list with each of its elements changed: what is taken or left of it
module _ {A B : Type 0} (f : A → B) where
  pub map-take : (n : ℕ) (xs : List A) → map f (take n xs) ≡ take n (map f xs)
  map-take zero xs = refl
  map-take (suc n) [] = refl
  map-take (suc n) (x ∷ xs) = ap (λ ys. f x ∷ ys) (map-take n xs)

  pub map-drop : (n : ℕ) (xs : List A) → map f (drop n xs) ≡ drop n (map f xs)
  map-drop zero xs = refl
  map-drop (suc n) [] = refl
  map-drop (suc n) (x ∷ xs) = map-drop n xs

pub map-stretch : (f : ℕ → ℕ) (a b : ℕ) (xs : List ℕ) → map f (stretch a b xs) ≡ stretch a b (map f xs)
unfolding stretch
map-stretch f a b xs = map-take f (suc b - a) (drop (a - 1) xs) ∙ ap (take (suc b - a)) (map-drop f (a - 1) xs)
