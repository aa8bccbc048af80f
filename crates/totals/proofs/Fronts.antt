-- What is read of a stream by the file at its front: a whole one, with whatever stands behind it, or one that the stream's end cuts short. Assumes nothing.
use mathlib.Core.Path.{◌≡◌, refl, ap, ◌∙◌}
use mathlib.Core.Bool.{Bool, true, false, cond, not, ◌&&◌}
use mathlib.Core.List.{List, [], ◌∷◌}
use Prim.Native.Nat.{ℕ, zero, suc, ◌<◌}
use native.Mathlib.Omega.{arith}
use lib.Dec.{eqb, eqb-suc-suc}
use lib.ListN.{length}
use borrow.Author.Tests.{eq-eqb, ne_eqb}
use Rattle.ending.specs.Ending.{file_at, rest_at}
use Rattle.totals.specs.Season.{is_refused}
use Rattle.totals.specs.Stream.{is_empty, files_in, left_in, waiting_in}

-- a stream without bytes
pub files-none : (most : ℕ) (stream : List ℕ) → length stream ≡ 0 → files_in most stream ≡ []
unfolding files_in
files-none zero stream e = refl
files-none (suc most) stream e = rw (eq-eqb (length stream) 0 e)

left-none : (most : ℕ) (stream : List ℕ) → length stream ≡ 0 → is_empty (left_in most stream) ≡ true
unfolding left_in
left-none zero stream e = eq-eqb (length stream) 0 e
left-none (suc most) stream e = rw (eq-eqb (length stream) 0 e)

none_left : (b : Bool) (left : List ℕ) → is_empty left ≡ true → (b && not (is_empty left)) ≡ false
none_left true left e = rw e
none_left false left e = refl

pub waiting_none : (most : ℕ) (stream : List ℕ) → length stream ≡ 0 → waiting_in most stream ≡ false
waiting_none most stream e = none_left (eqb (length (files_in most stream)) most) (left_in most stream) (left-none most stream e)

-- bytes behind the last file that is read
pub waiting-some : (stream : List ℕ) → 0 < length stream → waiting_in 0 stream ≡ true
unfolding files_in left_in
waiting-some stream l = rw (ne_eqb (length stream) 0 (λ e. omega arith))

-- the first file and what stands behind it
module _ (most : ℕ) (stream file rest : List ℕ) (some : 0 < length stream) (first : file_at stream ≡ file) (behind : rest_at stream ≡ rest) where
  pub files-apart : files_in (suc most) stream ≡ (file ∷ cond (is_refused file) [] (files_in most rest))
  unfolding files_in
  files-apart =
      ap (λ b. cond b [] (file_at stream ∷ cond (is_refused (file_at stream)) [] (files_in most (rest_at stream)))) (ne_eqb (length stream) 0 (λ e. omega arith))
      ∙ (λ i. first i ∷ cond (is_refused (first i)) [] (files_in most (behind i)))

  left-apart : left_in (suc most) stream ≡ cond (is_refused file) rest (left_in most rest)
  unfolding left_in
  left-apart =
      ap (λ b. cond b [] (cond (is_refused (file_at stream)) (rest_at stream) (left_in most (rest_at stream)))) (ne_eqb (length stream) 0 (λ e. omega arith))
      ∙ (λ i. cond (is_refused (first i)) (behind i) (left_in most (behind i)))

  waiting-apart : waiting_in (suc most) stream
      ≡ (eqb (length (file ∷ cond (is_refused file) [] (files_in most rest))) (suc most) && not (is_empty (cond (is_refused file) rest (left_in most rest))))
  waiting-apart = λ i. eqb (length (files-apart i)) (suc most) && not (is_empty (left-apart i))

  -- that is not refused
  pub waiting-on : is_refused file ≡ false → waiting_in (suc most) stream ≡ waiting_in most rest
  waiting-on e =
      waiting-apart
      ∙ (λ i. eqb (length (file ∷ cond (e i) [] (files_in most rest))) (suc most) && not (is_empty (cond (e i) rest (left_in most rest))))
      ∙ ap (λ b. b && not (is_empty (left_in most rest))) (eqb-suc-suc (length (files_in most rest)) most)

  -- that is: nothing waits behind it, unless it is the last
  pub waiting-refused : is_refused file ≡ true → 0 < most → waiting_in (suc most) stream ≡ false
  waiting-refused e more =
      waiting-apart
      ∙ (λ i. eqb (length (file ∷ cond (e i) [] (files_in most rest))) (suc most) && not (is_empty (cond (e i) rest (left_in most rest))))
      ∙ ap (λ b. b && not (is_empty rest)) (ne_eqb 1 (suc most) (λ z. omega arith))

  -- that ends the stream
  pub waiting-ended : length rest ≡ 0 → waiting_in (suc most) stream ≡ false
  waiting-ended e =
      waiting-apart
      ∙ none_left (eqb (length (file ∷ cond (is_refused file) [] (files_in most rest))) (suc most)) (cond (is_refused file) rest (left_in most rest)) (ended (is_refused file))
    where
      ended : (b : Bool) → is_empty (cond b rest (left_in most rest)) ≡ true
      ended true = eq-eqb (length rest) 0 e
      ended false = left-none most rest e

-- the last file that is read, refused or not
pub waiting-last : (stream file rest : List ℕ) → 0 < length stream → file_at stream ≡ file → rest_at stream ≡ rest → waiting_in 1 stream ≡ waiting_in 0 rest
unfolding files_in left_in
waiting-last stream file rest some first behind = waiting-apart 0 stream file rest some first behind ∙ go (is_refused file)
  where
    go : (b : Bool) → (eqb (length (file ∷ cond b [] [])) 1 && not (is_empty (cond b rest rest))) ≡ not (is_empty rest)
    go true = refl
    go false = refl
