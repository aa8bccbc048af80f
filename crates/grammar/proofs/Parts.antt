-- Decimals and survival numbers, test by test: what each answer of the reader is in the definitions. Assumes nothing.
use mathlib.Core.Path.{◌≡◌}
use mathlib.Core.List.{List}
use Prim.Native.Nat.{ℕ, ◌+◌, ◌-◌, ◌*◌, ◌/◌, ◌%◌, ◌≤◌, ◌<◌}
use native.Mathlib.Omega.{arith}
use lib.ListN.{length, take, drop, length-drop}
use lib.Seq.{take_all}
use borrow.Author.Tests.{eq-eqb, ne_eqb, lt-ltb, le-ltb}
use Rattle.rules.specs.State.{unit_of}
use Rattle.grammar.specs.Numbers.{none, whole, most, billion, joined, decimal_at, fraction, off_grid, share, parts}

-- all of a word from a place on
pub rest_all : (word : List ℕ) (from : ℕ) → take (length word - from) (drop from word) ≡ drop from word
rest_all word from = take_all (length word - from) (drop from word) (simp length-drop (omega arith))

module _ (word : List ℕ) (point : ℕ) where
  pub no-digits : length word - point < 2 → decimal_at word point ≡ none
  unfolding decimal_at
  no-digits h = let e : length word - point - 1 < 1 = omega arith in rw (lt-ltb (length word - point - 1) 1 e)

  module _ (some : 2 ≤ length word - point) where
    pub many-digits : most < length word - (point + 1) → decimal_at word point ≡ none
    unfolding decimal_at
    many-digits h =
        let e : 1 ≤ length word - point - 1 = omega arith in
        let f : most < length word - point - 1 = omega arith in
        rw (le-ltb (length word - point - 1) 1 e, lt-ltb most (length word - point - 1) f)

    module _ (few : length word - (point + 1) ≤ most) (value : ℕ) (is : value ≡ joined (whole (take point word)) (whole (drop (point + 1) word)) (length word - (point + 1))) where
      digits_same : length word - point - 1 ≡ length word - (point + 1)
      digits_same = omega arith

      pub above-one : billion < value → decimal_at word point ≡ none
      unfolding decimal_at
      above-one h =
          rw (digits_same, le-ltb (length word - (point + 1)) 1 (omega arith), le-ltb most (length word - (point + 1)) few, ← is, lt-ltb billion value h)

      pub in-billionths : value ≤ billion → decimal_at word point ≡ value
      unfolding decimal_at
      in-billionths h =
          rw (digits_same, le-ltb (length word - (point + 1)) 1 (omega arith), le-ltb most (length word - (point + 1)) few, ← is, le-ltb billion value h)

module _ (version billionths : ℕ) where
  pub share-none : billionths ≡ none → share version billionths ≡ none
  unfolding share
  share-none e = rw (eq-eqb billionths none e)

  module _ (some : billionths ≡ none → ⊥) (all : ℕ) (is : all ≡ billionths * unit_of version) where
    pub share-whole : all % billion ≡ 0 → share version billionths ≡ all / billion
    unfolding share
    share-whole e = rw (ne_eqb billionths none some, ← is, eq-eqb (all % billion) 0 e)

    pub share-between : (all % billion ≡ 0 → ⊥) → share version billionths ≡ off_grid + all / billion
    unfolding share
    share-between e = rw (ne_eqb billionths none some, ← is, ne_eqb (all % billion) 0 e)

module _ (version : ℕ) (word : List ℕ) where
  pub parts_whole : (whole word ≡ none → ⊥) → parts version word ≡ whole word
  unfolding parts
  parts_whole h = rw (ne_eqb (whole word) none h)

  pub parts-decimal : whole word ≡ none → parts version word ≡ share version (fraction word)
  unfolding parts
  parts-decimal e = rw (eq-eqb (whole word) none e)
