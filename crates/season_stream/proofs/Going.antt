-- What is told of a stream at whose front a whole file stands, or one that the stream's end cuts short. Assumes nothing.
use mathlib.Core.Path.{◌≡◌, refl, sym, ap, ◌∙◌}
use mathlib.Core.Bool.{Bool, true, false, cond}
use mathlib.Core.List.{List, [], ◌∷◌, ◌++◌}
use Prim.Native.Nat.{ℕ, suc, ◌<◌}
use native.Mathlib.Omega.{arith}
use lib.ListN.{length, length-append}
use Rattle.ending.specs.Ending.{asks, rest_at}
use Rattle.ending.proofs.Asking.{front-whole, rest-whole, file-short, rest-short}
use Rattle.totals.specs.declared.Totals.{Totals}
use Rattle.totals.specs.Season.{is_refused, totals_of}
use Rattle.totals.specs.Plus.{file_plus, files_plus}
use Rattle.totals.specs.Room.{most_files}
use Rattle.totals.specs.Stream.{files_in, is_waiting}
use Rattle.totals.proofs.Streams.{stream-totals}
use Rattle.totals.proofs.Fronts.{files-none, waiting_none, waiting-some, files-apart, waiting-on, waiting-refused, waiting-ended, waiting-last}
use Rattle.season_stream.specs.Reading.{season_of, season_in}

nothing : (b : Bool) → cond {A = List (List ℕ)} b [] [] ≡ []
nothing true = refl
nothing false = refl

-- from the first file on
pub season-from : (stream : List ℕ) → season_of stream ≡ season_in most_files (totals_of []) stream
season-from stream = λ i. record { totals = sym (stream-totals stream) i; waiting = is_waiting stream }

-- nothing follows
pub season-none : (most : ℕ) (t : Totals) → season_in most t [] ≡ record { totals = t; waiting = false }
unfolding files_plus
season-none most t = λ i. record { totals = files_plus t (files-none most [] refl i); waiting = waiting_none most [] refl i }

-- bytes behind the last file that is read
pub season-full : (t : Totals) (stream : List ℕ) → 0 < length stream → season_in 0 t stream ≡ record { totals = t; waiting = true }
unfolding files_plus files_in
season-full t stream some = λ i. record { totals = t; waiting = waiting-some stream some i }

module _ (t : Totals) (bytes : List ℕ) (some : 0 < length bytes) where
  -- a whole file
  module _ (rest : List ℕ) (whole : asks bytes ≡ length bytes) where
    longer : 0 < length (bytes ++ rest)
    longer = omega (arith, length-append bytes rest)

    files : (most : ℕ) → files_in (suc most) (bytes ++ rest) ≡ (bytes ∷ cond (is_refused bytes) [] (files_in most rest))
    files most = files-apart most (bytes ++ rest) bytes rest longer (front-whole bytes rest whole) (rest-whole bytes rest whole)

    pub whole-on : (most : ℕ) → is_refused bytes ≡ false → season_in (suc most) t (bytes ++ rest) ≡ season_in most (file_plus t bytes) rest
    unfolding files_plus
    whole-on most e =
        let sums = ap (files_plus t) (files most ∙ (λ i. bytes ∷ cond (e i) [] (files_in most rest))) in
        let waits = waiting-on most (bytes ++ rest) bytes rest longer (front-whole bytes rest whole) (rest-whole bytes rest whole) e in
        λ i. record { totals = sums i; waiting = waits i }

    pub whole-refused : (most : ℕ) → 0 < most → is_refused bytes ≡ true → season_in (suc most) t (bytes ++ rest) ≡ record { totals = file_plus t bytes; waiting = false }
    unfolding files_plus
    whole-refused most more e =
        let sums = ap (files_plus t) (files most ∙ (λ i. bytes ∷ cond (e i) [] (files_in most rest))) in
        let waits = waiting-refused most (bytes ++ rest) bytes rest longer (front-whole bytes rest whole) (rest-whole bytes rest whole) e more in
        λ i. record { totals = sums i; waiting = waits i }

    -- the last that is read, refused or not
    pub whole-last : season_in 1 t (bytes ++ rest) ≡ season_in 0 (file_plus t bytes) rest
    unfolding files_plus files_in
    whole-last =
        let sums = ap (files_plus t) (files 0 ∙ ap (λ xs. bytes ∷ xs) (nothing (is_refused bytes))) in
        let waits = waiting-last (bytes ++ rest) bytes rest longer (front-whole bytes rest whole) (rest-whole bytes rest whole) in
        λ i. record { totals = sums i; waiting = waits i }

  -- one that is cut short
  pub cut_short : (most : ℕ) → length bytes < asks bytes → season_in (suc most) t bytes ≡ record { totals = file_plus t bytes; waiting = false }
  unfolding files_plus
  cut_short most l =
      let none = files-none most (rest_at bytes) (rest-short bytes l) in
      let sums = ap (files_plus t) (files-apart most bytes bytes (rest_at bytes) some (file-short bytes l) refl ∙ ap (λ xs. bytes ∷ cond (is_refused bytes) [] xs) none ∙ ap (λ xs. bytes ∷ xs) (nothing (is_refused bytes))) in
      let waits = waiting-ended most bytes bytes (rest_at bytes) some (file-short bytes l) refl (rest-short bytes l) in
      λ i. record { totals = sums i; waiting = waits i }
