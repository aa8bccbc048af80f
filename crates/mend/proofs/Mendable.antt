-- A file that can be mended: every check held, one by one; its header can be written, and it reaches at least to where its counts say that it ends. Assumes nothing.
use mathlib.Core.Path.{◌≡◌}
use mathlib.Core.Bool.{false}
use mathlib.Core.List.{List}
use Prim.Native.Nat.{ℕ, ◌≤◌}
use native.Mathlib.Omega.{arith}
use lib.ListN.{length}
use borrow.Author.Tests.{ltb-false, not-false, le-ltb, le-leb}
use Rattle.rules.specs.Refusal.{bad_version, most_boards, first_of}
use Rattle.rules.specs.File.{number_at, board_count_field, shortest_header, header_length, most_fans, most_systems, version_in, fans_in, count_in, board_count_in, bad_boards_in, length_in}
use Rattle.rules.specs.Mending.{beyond_mending}
use Rattle.rules.proofs.EachKind.{within-true}
use Rattle.rules.proofs.Accepted.{none_first}
use Rattle.layout.proofs.Header.{Headed}
use Rattle.layout.proofs.Versions.{header-bounds, fans-bound, without-boards, few-boards}

pub record Mendable (bytes : List ℕ) : Type 0 where
  pub long : header_length (version_in bytes) ≤ length bytes
  pub versioned : bad_version (version_in bytes) ≡ false
  pub some_fan : 1 ≤ fans_in bytes
  pub most_fans : fans_in bytes ≤ most_fans
  pub some_system : 1 ≤ count_in bytes
  pub most-systems : count_in bytes ≤ most_systems
  pub counted : bad_boards_in bytes ≡ false
  pub whole : length_in bytes ≤ length bytes

pub mendable : (bytes : List ℕ) → beyond_mending bytes ≡ 0 → Mendable bytes
unfolding beyond_mending
mendable bytes e =
    let short = none_first 9 _ _ e in
    let version = none_first 10 _ _ short.1 in
    let header = none_first 9 _ _ version.1 in
    let size = none_first 1 _ _ header.1 in
    let count = none_first 11 _ _ size.1 in
    let boards = none_first 19 _ _ count.1 in
    let early = none_first 21 _ _ boards.1 in
    let fans = within-true 1 (fans_in bytes) most_fans (not-false _ size.0) in
    let systems = within-true 1 (count_in bytes) most_systems (not-false _ count.0) in
    record {
      long = ltb-false _ _ header.0;
      versioned = version.0;
      some_fan = fans.0;
      most_fans = fans.1;
      some_system = systems.0;
      most-systems = systems.1;
      counted = boards.0;
      whole = ltb-false _ _ early.0;
    }

pub not_beyond : (bytes : List ℕ) → Mendable bytes → beyond_mending bytes ≡ 0
unfolding beyond_mending first_of
not_beyond bytes ok =
    simp (
      le-ltb (length bytes) shortest_header (omega (arith, ok.long, header-bounds (version_in bytes))),
      le-ltb (length bytes) (header_length (version_in bytes)) ok.long,
      ok.versioned,
      le-leb _ _ ok.some_fan,
      le-leb _ _ ok.most_fans,
      le-leb _ _ ok.some_system,
      le-leb _ _ ok.most-systems,
      ok.counted,
      le-ltb (length bytes) (length_in bytes) ok.whole,
    )

module _ (bytes : List ℕ) (ok : Mendable bytes) where
  pub few : board_count_in bytes ≤ most_boards
  few = few-boards (version_in bytes) (board_count_in bytes) ok.counted (without-boards (version_in bytes) (number_at 4 bytes board_count_field) 0)

  pub headed : Headed (version_in bytes) (fans_in bytes) (board_count_in bytes) (count_in bytes)
  headed = record {
    versioned = ok.versioned;
    most_fans = ok.most_fans;
    most-systems = ok.most-systems;
    few = few;
    no_boards = without-boards (version_in bytes) (number_at 4 bytes board_count_field) 0;
  }

  -- no file that is mended is longer than the longest
  pub length_most : length_in bytes ≤ 812
  length_most = omega (arith, header-bounds (version_in bytes), fans-bound (version_in bytes) (fans_in bytes), ok.most_fans, ok.most-systems, few)
