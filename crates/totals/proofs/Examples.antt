-- Worked out by the checker: the files of a stream and whether bytes are waiting, for two files, a refused one with bytes behind it and a last one cut short; and by a
-- law the most files that are read, with bytes behind them and with none. Assumes nothing.
use mathlib.Core.Path.{◌≡◌, refl, ap, ◌∙◌}
use mathlib.Core.Bool.{true, false}
use mathlib.Core.List.{List, [], ◌∷◌, ◌++◌, append_assoc}
use Prim.Native.Nat.{ℕ, zero, suc, ◌<◌}
use native.Mathlib.Omega.{arith}
use lib.ListN.{length, take, length-append}
use Rattle.rules.specs.Below.{some, list_below}
use Rattle.rules.specs.Answer.{unless}
use Rattle.rules.specs.Refusal.{some_above, first_of}
use Rattle.rules.specs.File.{number_at, system_at, deck_in, file_refusal}
use Rattle.deck.specs.Head.{counts_refusal}
use Rattle.ending.specs.Ending.{asks}
use Rattle.ending.proofs.Asking.{front-whole, rest-whole}
use Rattle.ending.proofs.Examples.{small, unknown}
use Rattle.totals.specs.Season.{is_refused}
use Rattle.totals.specs.Room.{most_files}
use Rattle.totals.specs.Stream.{files_in, left_in, waiting_in, files_of, is_waiting}
use Rattle.totals.proofs.Fronts.{waiting_none, waiting-some, waiting-on}

pub streams : (files_of (small ++ small) ≡ (small ∷ small ∷ []))
    × (is_waiting (small ++ small) ≡ false)
    × (files_of (small ++ unknown ++ small) ≡ (small ∷ unknown ∷ []))
    × (is_waiting (small ++ unknown ++ small) ≡ false)
    × (files_of (small ++ take 30 small) ≡ (small ∷ take 30 small ∷ []))
    × (is_waiting (small ++ take 30 small) ≡ false)
    × (files_in 1 (small ++ small) ≡ (small ∷ []))
    × (waiting_in 1 (small ++ small) ≡ true)
    × (waiting_in 1 (unknown ++ small) ≡ true)
    × (waiting_in 2 (unknown ++ small) ≡ false)
    × (files_of [] ≡ [])
unfolding files_in left_in file_refusal asks number_at counts_refusal first_of unless some some_above list_below system_at deck_in
streams = (refl, refl, refl, refl, refl, refl, refl, refl, refl, refl, refl)

-- so many copies of a file, and what stands behind them
unfoldable pub copies : (many : ℕ) (file : List ℕ) → List ℕ
copies zero file = []
copies (suc many) file = file ++ copies many file

module _ (file : List ℕ) (some_bytes : 0 < length file) (whole : asks file ≡ length file) (sound : is_refused file ≡ false) where
  waiting-copies : (many : ℕ) (rest : List ℕ) → waiting_in many (copies many file ++ rest) ≡ waiting_in 0 rest
  unfolding copies
  waiting-copies zero rest = refl
  waiting-copies (suc many) rest =
      let behind = copies many file ++ rest in
      ap (waiting_in (suc many)) (append_assoc file (copies many file) rest)
      ∙ waiting-on many (file ++ behind) file behind (omega (arith, length-append file behind)) (front-whole file behind whole) (rest-whole file behind whole) sound
      ∙ waiting-copies many rest

  pub most-waiting : (rest : List ℕ) → 0 < length rest → is_waiting (copies most_files file ++ rest) ≡ true
  most-waiting rest more = waiting-copies most_files rest ∙ waiting-some rest more

  pub most-alone : is_waiting (copies most_files file ++ []) ≡ false
  most-alone = waiting-copies most_files [] ∙ waiting_none 0 [] refl

small-sound : is_refused small ≡ false
unfolding file_refusal number_at first_of some some_above list_below system_at deck_in
small-sound = refl

small-whole : asks small ≡ length small
unfolding asks number_at counts_refusal first_of unless
small-whole = refl

-- the small deck 10,000 times, and a byte more
pub ten-thousand : is_waiting (copies most_files small ++ 0 ∷ []) ≡ true
ten-thousand = most-waiting small (omega arith) small-whole small-sound (0 ∷ []) (omega arith)
