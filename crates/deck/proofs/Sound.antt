-- A file that is not refused: every check held, one by one, and a file of which every check holds is not refused. Assumes nothing.
use mathlib.Core.Path.{◌≡◌}
use mathlib.Core.Bool.{false}
use mathlib.Core.List.{List}
use Prim.Native.Nat.{ℕ, ◌≤◌}
use native.Mathlib.Omega.{arith}
use lib.ListN.{length}
use borrow.Author.Tests.{ltb-false, eqb-true, not-true, not-false, le-ltb, le-leb, eq-eqb}
use Rattle.rules.specs.Refusal.{bad_version, most_boards, first_of}
use Rattle.rules.specs.File.{number_at, board_count_field, shortest_header, zero_field, survival_field, weights_field, systems_field, header_length, most_fans, most_systems, version_in, fans_in, count_in, board_count_in, survival_offset, weights_offset, systems_offset, file_length, boards_elsewhere, bad_boards_in, misplaced_in, file_refusal}
use Rattle.rules.proofs.Tests.{both, neither}
use Rattle.rules.proofs.EachKind.{within-true}
use Rattle.rules.proofs.Accepted.{none_first}
use Rattle.layout.proofs.Versions.{header-bounds, without-boards, few-boards}

pub record Sound (bytes : List ℕ) : Type 0 where
  pub long : header_length (version_in bytes) ≤ length bytes
  pub versioned : bad_version (version_in bytes) ≡ false
  pub nought : number_at 2 bytes zero_field ≡ 0
  pub some_fan : 1 ≤ fans_in bytes
  pub most_fans : fans_in bytes ≤ most_fans
  pub some_system : 1 ≤ count_in bytes
  pub most-systems : count_in bytes ≤ most_systems
  pub counted : bad_boards_in bytes ≡ false
  pub survival_place : number_at 4 bytes survival_field ≡ survival_offset (version_in bytes)
  pub weights_place : number_at 4 bytes weights_field ≡ weights_offset (version_in bytes) (fans_in bytes)
  pub systems_place : number_at 4 bytes systems_field ≡ systems_offset (version_in bytes) (fans_in bytes) (board_count_in bytes)
  pub boards_place : boards_elsewhere bytes ≡ false
  pub whole : length bytes ≡ file_length (version_in bytes) (fans_in bytes) (board_count_in bytes) (count_in bytes)
  pub placed : misplaced_in bytes ≡ false

pub sound : (bytes : List ℕ) → file_refusal bytes ≡ 0 → Sound bytes
unfolding file_refusal
sound bytes e =
    let short = none_first 9 _ _ e in
    let version = none_first 10 _ _ short.1 in
    let header = none_first 9 _ _ version.1 in
    let size = none_first 1 _ _ header.1 in
    let count = none_first 11 _ _ size.1 in
    let boards = none_first 19 _ _ count.1 in
    let layout = none_first 12 _ _ boards.1 in
    let fans-placed = none_first 20 _ _ layout.1 in
    let start = neither (bad_version (version_in bytes)) _ version.0 in
    let fans = within-true 1 (fans_in bytes) most_fans (not-false _ size.0) in
    let systems = within-true 1 (count_in bytes) most_systems (not-false _ count.0) in
    let whole = both _ _ (not-false _ layout.0) in
    let fourth = both _ _ whole.0 in
    let third = both _ _ fourth.0 in
    let offsets = both _ _ third.0 in
    record {
      long = ltb-false _ _ header.0;
      versioned = start.0;
      nought = eqb-true _ _ (not-false _ start.1);
      some_fan = fans.0;
      most_fans = fans.1;
      some_system = systems.0;
      most-systems = systems.1;
      counted = boards.0;
      survival_place = eqb-true _ _ offsets.0;
      weights_place = eqb-true _ _ offsets.1;
      systems_place = eqb-true _ _ third.1;
      boards_place = not-true _ fourth.1;
      whole = eqb-true _ _ whole.1;
      placed = fans-placed.0;
    }

pub not-refused : (bytes : List ℕ) → Sound bytes → file_refusal bytes ≡ 0
unfolding file_refusal first_of
not-refused bytes s =
    simp (
      le-ltb (length bytes) shortest_header (omega (arith, s.long, header-bounds (version_in bytes))),
      le-ltb (length bytes) (header_length (version_in bytes)) s.long,
      s.versioned,
      eq-eqb _ _ s.nought,
      le-leb _ _ s.some_fan,
      le-leb _ _ s.most_fans,
      le-leb _ _ s.some_system,
      le-leb _ _ s.most-systems,
      s.counted,
      eq-eqb _ _ s.survival_place,
      eq-eqb _ _ s.weights_place,
      eq-eqb _ _ s.systems_place,
      s.boards_place,
      eq-eqb _ _ s.whole,
      s.placed,
    )

-- at most four boards
pub sound-few : (bytes : List ℕ) → file_refusal bytes ≡ 0 → board_count_in bytes ≤ most_boards
sound-few bytes e =
    few-boards (version_in bytes) (board_count_in bytes) (sound bytes e).counted (without-boards (version_in bytes) (number_at 4 bytes board_count_field) 0)
