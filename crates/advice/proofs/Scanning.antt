-- A list looked through from one place up to another: for the first number above a limit, and for its sum. What is left to do from the place at hand on gives
-- the whole answer. Assumes nothing.
use mathlib.Core.Path.{◌≡◌, refl, sym, ◌∙◌}
use mathlib.Core.List.{List}
use Prim.Native.Nat.{ℕ, suc, ◌+◌, ◌-◌, ◌*◌, ◌≤◌, ◌<◌}
use native.Mathlib.Omega.{arith}
use native.Mathlib.Numerals.{add-one}
use lib.ListN.{get_or}
use borrow.Author.Tests.{lt-ltb, le-ltb}
use Rattle.advice.specs.System.{above_from, weight_from}

-- what is found from a place on, of the places up to another
abbrev found_from : (limit : ℕ) (numbers : List ℕ) (i upto : ℕ) → ℕ
found_from limit numbers i upto = above_from limit numbers i (upto - i)

left-more : (i upto : ℕ) → i < upto → upto - i ≡ suc (upto - (i + 1))
left-more i upto l = omega (arith, l)

pub record Searched (limit : ℕ) (numbers : List ℕ) (from upto i : ℕ) : Type 0 where
  pub passed : i ≤ upto
  pub same : found_from limit numbers i upto ≡ found_from limit numbers from upto

pub none-searched : (limit : ℕ) (numbers : List ℕ) (from upto : ℕ) → from ≤ upto → Searched limit numbers from upto from
none-searched limit numbers from upto l = record { passed = l; same = refl }

module _ {limit : ℕ} {numbers : List ℕ} {from upto i : ℕ} (s : Searched limit numbers from upto i) where
  pub one-searched : i < upto → get_or numbers i 0 ≤ limit → Searched limit numbers from upto (i + 1)
  unfolding above_from
  one-searched l below =
      let passed : found_from limit numbers i upto ≡ found_from limit numbers (i + 1) upto = rw (left-more i upto l, le-ltb limit (get_or numbers i 0) below, ← add-one i) refl in
      record { passed = omega (arith, l); same = sym passed ∙ s.same }

  pub found : i < upto → limit < get_or numbers i 0 → i ≡ found_from limit numbers from upto
  unfolding above_from
  found l above =
      let here : i ≡ found_from limit numbers i upto = rw (left-more i upto l, lt-ltb limit (get_or numbers i 0) above) refl in
      here ∙ s.same

  pub not_found : upto ≤ i → i ≡ found_from limit numbers from upto
  unfolding above_from
  not_found l =
      let none : upto - i ≡ 0 = omega (arith, l) in
      let here : i ≡ found_from limit numbers i upto = rw none refl in
      here ∙ s.same

-- a sum so far, of the places from one up to another
pub record Summed (weights : List ℕ) (from upto sum i : ℕ) : Type 0 where
  pub begun : from ≤ i
  pub passed : i ≤ upto
  pub few : sum ≤ 65535 * i
  pub same : sum + weight_from weights i (upto - i) ≡ weight_from weights from (upto - from)

pub none-summed : (weights : List ℕ) (from upto : ℕ) → from ≤ upto → Summed weights from upto 0 from
none-summed weights from upto l = record { begun = omega arith; passed = l; few = omega arith; same = omega arith }

module _ {weights : List ℕ} {from upto sum i : ℕ} (s : Summed weights from upto sum i) where
  pub one-summed : i < upto → get_or weights i 0 < 65536 → Summed weights from upto (sum + get_or weights i 0) (i + 1)
  unfolding weight_from
  one-summed l small =
      let more : weight_from weights i (upto - i) ≡ get_or weights i 0 + weight_from weights (i + 1) (upto - (i + 1)) = rw (left-more i upto l, ← add-one i) refl in
      record { begun = omega (arith, s.begun); passed = omega (arith, l); few = omega (arith, s.few, small); same = omega (arith, more, s.same) }

  pub all-summed : upto ≤ i → sum ≡ weight_from weights from (upto - from)
  unfolding weight_from
  all-summed l =
      let none : upto - i ≡ 0 = omega (arith, l) in
      let rest : weight_from weights i (upto - i) ≡ 0 = rw none refl in
      omega (arith, rest, s.same)
