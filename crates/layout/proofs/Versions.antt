-- Request 11: what a version says of the layout, with boards and without: the header's length, how many fans have a board byte, which lists are read. By whether the
-- version has boards. Assumes nothing.
use mathlib.Core.Path.{◌≡◌, refl, sym, ap}
use mathlib.Core.Bool.{Bool, true, false, cond, not, ◌&&◌, ◌||◌, true≢false}
use mathlib.Core.List.{List, []}
use Prim.Native.Nat.{ℕ, ◌≤◌, ◌<◌}
use native.Mathlib.Omega.{arith}
use lib.Dec.{eqb}
use lib.ListN.{length}
use borrow.Author.Tests.{eqb-true, not-false}
use Rattle.rules.specs.Below.{within, list_below}
use Rattle.rules.specs.Boards.{has_boards, boards_read}
use Rattle.rules.specs.Refusal.{most_boards, some_above, bad_boards, misplaced}
use Rattle.rules.specs.File.{header_length, board_fans}
use Rattle.rules.proofs.Tests.{neither}
use Rattle.rules.proofs.EachKind.{within-true}
use Rattle.rules.proofs.Conditions.{none_above}
use Rattle.layout.specs.Fits.{Under}
use Rattle.layout.proofs.Under.{under_none}

-- of two that do not both hold, the second does not where the first does
pub second_none : (a b : Bool) → a && b ≡ false → a ≡ true → b ≡ false
second_none true b h e = h
second_none false b h e = absurd (true≢false (sym e))

module _ (version : ℕ) where
  pub header-bounds : (20 ≤ header_length version) × (header_length version ≤ 28)
  header-bounds = go (has_boards version)
    where
      go : (b : Bool) → (20 ≤ cond b 28 20) × (cond b 28 20 ≤ 28)
      go true = (omega arith, omega arith)
      go false = (omega arith, omega arith)

  pub fans-bound : (n : ℕ) → board_fans version n ≤ n
  fans-bound n = go (has_boards version)
    where
      go : (b : Bool) → cond b n 0 ≤ n
      go true = omega arith
      go false = omega arith

  -- what holds with boards, and without
  pub by-boards : (P : Bool → Type 0) → (has_boards version ≡ true → P true) → (has_boards version ≡ false → P false) → P (has_boards version)
  by-boards P some none = go (has_boards version) refl
    where
      go : (b : Bool) → has_boards version ≡ b → P b
      go true e = some e
      go false e = none e

  pub with-boards : {A : Type 0} (x y : A) → has_boards version ≡ true → cond (has_boards version) x y ≡ x
  with-boards x y e = rw e

  pub without-boards : {A : Type 0} (x y : A) → has_boards version ≡ false → cond (has_boards version) x y ≡ y
  without-boards x y e = rw e

  pub header-some : has_boards version ≡ true → header_length version ≡ 28
  header-some e = rw e

  pub header-none : has_boards version ≡ false → header_length version ≡ 20
  header-none e = rw e

  -- with boards a list is read whole, and so is one of so many as the version has
  pub read_some : (xs : List ℕ) → has_boards version ≡ true → boards_read version xs ≡ xs
  read_some xs = with-boards xs []

  pub read-own : (n : ℕ) (f : ℕ → ℕ) → boards_read version (list_below (cond (has_boards version) n 0) f) ≡ list_below (cond (has_boards version) n 0) f
  unfolding list_below
  read-own n f = by-boards (λ b. cond b (list_below (cond b n 0) f) [] ≡ list_below (cond b n 0) f) (λ e. refl) (λ e. refl)

  pub under-read : {limit : ℕ} {xs : List ℕ} → 0 < limit → Under limit xs → Under limit (boards_read version xs)
  under-read {limit} {xs} h small = by-boards (λ b. Under limit (cond b xs [])) (λ e. small) (λ e. under_none h)

  -- at most four boards, and none where the version has none
  module _ (g : ℕ) (counted : bad_boards version g ≡ false) where
    pub few-boards : (has_boards version ≡ false → g ≡ 0) → g ≤ most_boards
    few-boards none = go (has_boards version) refl counted
      where
        go : (b : Bool) → has_boards version ≡ b → b && not (within 1 g most_boards) ≡ false → g ≤ most_boards
        go true e h = (within-true 1 g most_boards (not-false _ h)).1
        go false e h = omega (arith, none e)

  -- as many board numbers as the version has
  pub fans-boarded : (n g : ℕ) (boards : List ℕ) → misplaced version n g boards boards ≡ false → boards_read version boards ≡ boards
      → length boards ≡ board_fans version n
  fans-boarded n g boards = by-boards (λ b. b && (not (eqb (length boards) n) || some_above g boards) ≡ false → cond b boards [] ≡ boards → length boards ≡ cond b n 0)
      (λ e h own. eqb-true (length boards) n (not-false _ (neither (not (eqb (length boards) n)) _ h).0))
      (λ e h own. ap length (sym own))

  -- a board number fits its byte
  pub boards-small : (n g : ℕ) (boards : List ℕ) → g ≤ most_boards → misplaced version n g boards boards ≡ false → boards_read version boards ≡ boards → Under 256 boards
  boards-small n g boards few = by-boards (λ b. b && (not (eqb (length boards) n) || some_above g boards) ≡ false → cond b boards [] ≡ boards → Under 256 boards)
      (λ e h own. record { each = λ i. omega (arith, none_above g boards (neither (not (eqb (length boards) n)) _ h).1 i) })
      (λ e h own. rw (← own) (under_none (omega arith)))
