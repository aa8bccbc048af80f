-- Lists padded to a length: how long they are, what stands where, and that storing the next entry in a padded list pads a list of one entry
-- more. Assumes nothing.
use mathlib.Core.Path.{◌≡◌, sym, ap, ◌∙◌}
use mathlib.Core.List.{List, [], ◌∷◌, ◌++◌}
use Prim.Native.Nat.{ℕ, suc, ◌+◌, ◌-◌, ◌<◌}
use native.Mathlib.Nat.{sub-zero}
use native.Mathlib.Numerals.{add-one}
use native.Mathlib.Omega.{arith}
use lib.ListN.{length, get_or, take, set, replicate, get_or-append}
use lib.Seq.{set_at, take_at, append_snoc}
use Rattle.rules.specs.Below.{list_below}
use Rattle.rules.proofs.Lists.{below_length, below_get}
use Rattle.arrays.specs.Padded.{padded}

module _ {A : Type 0} where
  pub padded-none : (k : ℕ) (filler : A) (f : ℕ → A) → replicate k filler ≡ padded k filler (list_below 0 f)
  unfolding padded list_below
  padded-none k filler f = rw sub-zero

  padded_set : (k : ℕ) (filler : A) (f : ℕ → A) (i : ℕ) → i < k
      → set (padded k filler (list_below i f)) i (f i) ≡ padded k filler (list_below (i + 1) f)
  unfolding padded list_below
  padded_set k filler f i h =
      let xs = list_below i f in
      let left : k - length xs ≡ suc (k - suc i) = omega (arith, below_length i f) in
      ap (λ n. set (xs ++ replicate n filler) i (f i)) left
      ∙ set_at xs filler (replicate (k - suc i) filler) (f i) i (below_length i f)
      ∙ sym (append_snoc xs (f i) (replicate (k - suc i) filler))
      ∙ ap (λ n. xs ++ (f i ∷ []) ++ replicate (k - n) filler) (sym (below_length (suc i) f))
      ∙ ap (λ n. padded k filler (list_below n f)) (sym (add-one i))

  pub padded-take : (k : ℕ) (filler : A) (n : ℕ) (f : ℕ → A) → take n (padded k filler (list_below n f)) ≡ list_below n f
  unfolding padded
  padded-take k filler n f = take_at (list_below n f) (replicate (k - length (list_below n f)) filler) n (below_length n f)

  pub padded-get : (k : ℕ) (filler d : A) (n : ℕ) (f : ℕ → A) (i : ℕ) → i < n → get_or (padded k filler (list_below n f)) i d ≡ f i
  unfolding padded
  padded-get k filler d n f i h =
      get_or-append (list_below n f) (replicate (k - length (list_below n f)) filler) d i (rw (below_length n f) h) ∙ below_get n f d i h

  -- what a store makes of an array that holds the first i entries of f
  pub padded-more : (k : ℕ) (filler : A) (f : ℕ → A) {i : ℕ} {xs : List A} {v : A} → xs ≡ padded k filler (list_below i f) → i < k → v ≡ f i
      → set xs i v ≡ padded k filler (list_below (i + 1) f)
  padded-more k filler f {i} holds h e = rw (holds, e) (padded_set k filler f i h)

  -- the array that holds the last entry too
  pub padded-all : (k : ℕ) (filler : A) (f : ℕ → A) {i n : ℕ} {xs : List A} → xs ≡ padded k filler (list_below i f) → i ≡ n
      → xs ≡ padded k filler (list_below n f)
  padded-all k filler f holds e = holds ∙ ap (λ j. padded k filler (list_below j f)) e
