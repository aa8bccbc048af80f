-- The layout: a file is accepted exactly if it is the bytes of a deck within bounds, and that deck is the one that reading by position finds.
-- Each part of a file is the bytes of a list of numbers, so the laws of such lists serve for the header, the survival numbers, the weights and
-- the systems alike. Assumes nothing.
use mathlib.Core.Path.{◌≡◌, refl, sym, ap, ap₂, ◌∙◌}
use mathlib.Core.Bool.{true, false, cond}
use mathlib.Core.Logic.{◌↔◌}
use mathlib.Core.List.{List, [], ◌∷◌, ◌++◌, append_assoc, append-nil}
use Prim.Native.Nat.{ℕ, ◌+◌, ◌*◌, ◌≤◌, ◌<◌}
use native.Mathlib.Omega.{arith}
use lib.ListN.{length, get_or, take, length-append}
use lib.Seq.{take_all, take-add}
use borrow.Author.Tests.{not-false, eqb-true}
use Rattle.rules.specs.Below.{list_below}
use Rattle.rules.specs.Boards.{has_boards, boards_read}
use Rattle.rules.specs.Refusal.{most_boards}
use Rattle.rules.specs.File.{Deck, number_at, nth_number, numbers_from, all_bytes, counts_of, offsets_of, header_of, system_numbers, file_of, nth_system, system_in, deck_in, file_refusal}
use Rattle.rules.specs.File.{version_in, fans_in, count_in, board_count_in, boards_elsewhere, version_field, zero_field, survival_field, weights_field, systems_field, board_count_field, boards_field, header_length}
use Rattle.rules.specs.File.{survival_bytes, weight_bytes, board_bytes, system_bytes, board_fans, survival_offset, weights_offset, boards_offset, switchboards_offset, systems_offset}
use Rattle.layout.specs.Fits.{Bytes}
use Rattle.deck.specs.Bounds.{Bounds}
use Rattle.rules.proofs.Lists.{below_length}
use Rattle.layout.proofs.Under.{under-below}
use Rattle.layout.proofs.Numbers.{Stands, all-length, number_fits, number-within, numbers-back, bytes_back}
use Rattle.deck.proofs.Systems.{numbers-length, systems-back, numbers_of}
use Rattle.layout.proofs.Versions.{by-boards, second_none, read-own, few-boards, fans-boarded, boards-small}
use Rattle.layout.proofs.Header as header
use Rattle.layout.proofs.Header.{Headed, header_is, header-length}
use Rattle.deck.proofs.Sound.{Sound, sound, not-refused}

-- a file's parts before the weights, the boards' bytes, the boards' numbers and the systems
abbrev header_for : Deck → List ℕ
header_for d = header_of d.version (length d.survival) (length d.switchboards) (length d.systems)

abbrev pub to_weights : Deck → List ℕ
to_weights d = header_for d ++ all_bytes survival_bytes d.survival

abbrev pub to_boards : Deck → List ℕ
to_boards d = to_weights d ++ all_bytes weight_bytes d.weights

abbrev pub to_numbers : Deck → List ℕ
to_numbers d = to_boards d ++ all_bytes board_bytes d.boards

abbrev pub to_systems : Deck → List ℕ
to_systems d = to_numbers d ++ all_bytes survival_bytes d.switchboards

-- a part more
part_length : (xs : List ℕ) (width : ℕ) (ys : List ℕ) → length (xs ++ all_bytes width ys) ≡ length xs + width * length ys
part_length xs width ys = length-append xs (all_bytes width ys) ∙ rw (all-length width ys)

pub weights-from : (d : Deck) → length (to_weights d) ≡ weights_offset d.version (length d.survival)
weights-from d = part_length (header_for d) survival_bytes d.survival ∙ rw (header-length d.version (length d.survival) (length d.switchboards) (length d.systems))

pub boards-from : (d : Deck) → length (to_boards d) ≡ weights_offset d.version (length d.survival) + weight_bytes * length d.weights
boards-from d = part_length (to_weights d) weight_bytes d.weights ∙ rw (weights-from d)

pub numbers-from : (d : Deck)
    → length (to_numbers d) ≡ weights_offset d.version (length d.survival) + weight_bytes * length d.weights + board_bytes * length d.boards
numbers-from d = part_length (to_boards d) board_bytes d.boards ∙ rw (boards-from d)

pub systems-from : (d : Deck)
    → length (to_systems d)
    ≡ weights_offset d.version (length d.survival) + weight_bytes * length d.weights + board_bytes * length d.boards + survival_bytes * length d.switchboards
systems-from d = part_length (to_numbers d) survival_bytes d.switchboards ∙ rw (numbers-from d)

pub file-length : (d : Deck)
    → length (file_of d)
    ≡ weights_offset d.version (length d.survival) + weight_bytes * length d.weights + board_bytes * length d.boards + survival_bytes * length d.switchboards
    + system_bytes * length d.systems
unfolding file_of
file-length d = part_length (to_systems d) 2 (system_numbers d.systems) ∙ omega (arith, systems-from d, numbers-length d.systems)

-- the file of a deck within bounds, read: each part stands where the layout says
module _ (d : Deck) (ok : Bounds d) where
  abbrev v : ℕ
  v = d.version

  abbrev n : ℕ
  n = length d.survival

  abbrev g : ℕ
  g = length d.switchboards

  abbrev m : ℕ
  m = length d.systems

  -- the boards: at most four, none without a version that has them, and as many board numbers as fans
  no_boards : has_boards v ≡ false → g ≡ 0
  no_boards none = sym (ap length ok.own_numbers) ∙ rw none

  few : g ≤ most_boards
  few = few-boards v g ok.counted no_boards

  boarded : length d.boards ≡ board_fans v n
  boarded = fans-boarded v n g d.boards ok.placed ok.own_boards

  -- its header, and what follows
  headed : Headed v n g m
  headed = record { versioned = ok.versioned; most_fans = ok.most_fans; most-systems = ok.most-systems; few = few; no_boards = no_boards }

  abbrev rest : List ℕ
  rest =
      all_bytes survival_bytes d.survival
      ++ (all_bytes weight_bytes d.weights
      ++ (all_bytes board_bytes d.boards ++ (all_bytes survival_bytes d.switchboards ++ all_bytes 2 (system_numbers d.systems))))

  file-parts : file_of d ≡ header_for d ++ rest
  unfolding file_of
  file-parts = simp append_assoc

  version-at : version_in (file_of d) ≡ v
  version-at = ap version_in file-parts ∙ header.version-at headed rest

  fans-at : fans_in (file_of d) ≡ n
  fans-at = ap fans_in file-parts ∙ header.fans-at headed rest

  systems-at : count_in (file_of d) ≡ m
  systems-at = ap count_in file-parts ∙ header.systems-at headed rest

  board-count-at : board_count_in (file_of d) ≡ g
  board-count-at = ap board_count_in file-parts ∙ header.board-count-at headed rest

  place_at : (i : ℕ) → i < 3 → nth_number 4 (file_of d) survival_field i ≡ get_or (offsets_of v n g) i 0
  place_at i l = ap (λ bytes. nth_number 4 bytes survival_field i) file-parts ∙ header.place_at headed rest i l

  survival-stand : Stands survival_bytes d.survival (file_of d) (survival_offset v)
  unfolding file_of
  survival-stand = record {
    before = header_for d;
    after =
        all_bytes weight_bytes d.weights ++ (all_bytes board_bytes d.boards ++ (all_bytes survival_bytes d.switchboards ++ all_bytes 2 (system_numbers d.systems)));
    parts = simp append_assoc;
    place = header-length v n g m;
  }

  weights-stand : Stands weight_bytes d.weights (file_of d) (weights_offset v n)
  unfolding file_of
  weights-stand = record {
    before = to_weights d;
    after = all_bytes board_bytes d.boards ++ (all_bytes survival_bytes d.switchboards ++ all_bytes 2 (system_numbers d.systems));
    parts = simp append_assoc;
    place = weights-from d;
  }

  boards-stand : Stands board_bytes d.boards (file_of d) (boards_offset v n)
  unfolding file_of
  boards-stand = record {
    before = to_boards d;
    after = all_bytes survival_bytes d.switchboards ++ all_bytes 2 (system_numbers d.systems);
    parts = simp append_assoc;
    place = omega (arith, boards-from d, ok.weighed);
  }

  numbers-stand : Stands survival_bytes d.switchboards (file_of d) (switchboards_offset v n)
  unfolding file_of
  numbers-stand = record {
    before = to_numbers d;
    after = all_bytes 2 (system_numbers d.systems);
    parts = refl;
    place = omega (arith, numbers-from d, ok.weighed, boarded);
  }

  systems-stand : Stands 2 (system_numbers d.systems) (file_of d) (systems_offset v n g)
  unfolding file_of
  systems-stand = record {
    before = to_systems d;
    after = [];
    parts = sym (append-nil _);
    place = omega (arith, systems-from d, ok.weighed, boarded);
  }

  pub deck-back : deck_in (file_of d) ≡ d
  unfolding deck_in
  deck-back =
      let survival = numbers-back survival-stand ok.survival_fits n refl in
      let weights = numbers-back weights-stand ok.weights_fit n ok.weighed in
      let boards = numbers-back boards-stand (boards-small v n g d.boards few ok.placed ok.own_boards) (board_fans v n) boarded in
      let numbers = numbers-back numbers-stand ok.boards_fit g refl in
      let systems =
      systems-back d.systems (file_of d) (systems_offset v n g) m refl
      (λ i h. number-within systems-stand ok.systems_fit i (omega (arith, numbers-length d.systems)))
      in
      (λ x. record {
        version = version-at x;
        survival = numbers_from survival_bytes (file_of d) (survival_offset (version-at x)) (fans-at x);
        weights = numbers_from weight_bytes (file_of d) (weights_offset (version-at x) (fans-at x)) (fans-at x);
        boards = numbers_from board_bytes (file_of d) (boards_offset (version-at x) (fans-at x)) (board_fans (version-at x) (fans-at x));
        switchboards = numbers_from survival_bytes (file_of d) (switchboards_offset (version-at x) (fans-at x)) (board-count-at x);
        systems = list_below (systems-at x) (nth_system (file_of d) (systems_offset (version-at x) (fans-at x) (board-count-at x)));
      })
      ∙ (λ x. record { version = v; survival = survival x; weights = weights x; boards = boards x; switchboards = numbers x; systems = systems x })

  pub file-accepted : file_refusal (file_of d) ≡ 0
  file-accepted =
      not-refused (file_of d)
      record {
        long = rw version-at (omega (arith, file-length d));
        versioned = rw version-at ok.versioned;
        nought = ap (λ bytes. number_at 2 bytes zero_field) file-parts ∙ header.count_at headed rest 1 (omega arith);
        some_fan = omega (arith, fans-at, ok.some_fan);
        most_fans = omega (arith, fans-at, ok.most_fans);
        some_system = omega (arith, systems-at, ok.some_system);
        most-systems = omega (arith, systems-at, ok.most-systems);
        counted = rw (board-count-at, version-at) ok.counted;
        survival_place = rw version-at (place_at 0 (omega arith));
        weights_place = rw (version-at, fans-at) (place_at 1 (omega arith));
        systems_place = rw (board-count-at, version-at, fans-at) (place_at 2 (omega arith));
        boards_place = ap boards_elsewhere file-parts ∙ header.boards-stand-at headed rest;
        whole = rw (board-count-at, version-at, fans-at, systems-at) (omega (arith, file-length d, ok.weighed, boarded));
        placed = rw (deck-back, board-count-at, version-at, fans-at) ok.placed;
      }

-- a file that is not refused, written again
module _ (bytes : List ℕ) (small : Bytes bytes) (e : file_refusal bytes ≡ 0) where
  abbrev s : Sound bytes
  s = sound bytes e

  abbrev version : ℕ
  version = version_in bytes

  abbrev fans : ℕ
  fans = fans_in bytes

  abbrev boards : ℕ
  boards = board_count_in bytes

  -- the numbers that the header ends in
  offsets-back : offsets_of version fans boards ≡ numbers_from 4 bytes survival_field (3 + cond (has_boards version) 2 0)
  unfolding list_below
  offsets-back =
      (λ x. sym s.survival_place x ∷ sym s.weights_place x ∷ sym s.systems_place x ∷ boards_read version (boards ∷ boards_offset version fans ∷ []))
      ∙ by-boards version
      (λ b. first ∷ second ∷ third ∷ cond b (cond b count 0 ∷ boards_offset version fans ∷ []) [] ≡ numbers_from 4 bytes survival_field (3 + cond b 2 0))
      (λ has x. first ∷ second ∷ third ∷ count ∷ sym (placed has) x ∷ [])
      (λ none. refl)
    where
      first : ℕ
      first = number_at 4 bytes survival_field

      second : ℕ
      second = number_at 4 bytes weights_field

      third : ℕ
      third = number_at 4 bytes systems_field

      count : ℕ
      count = number_at 4 bytes board_count_field

      placed : has_boards version ≡ true → number_at 4 bytes boards_field ≡ boards_offset version fans
      placed has = eqb-true _ _ (not-false _ (second_none (has_boards version) _ s.boards_place has))

  pub header-back : header_of version fans boards (count_in bytes) ≡ take (header_length version) bytes
  unfolding header_of list_below
  header-back =
      let m = count_in bytes in
      let h = header_is version in
      let counted : all_bytes 2 (counts_of version fans m) ≡ all_bytes 2 (numbers_from 2 bytes version_field 4) =
      λ x. all_bytes 2 (version ∷ sym s.nought x ∷ fans ∷ m ∷ [])
      in
      let k = 3 + cond (has_boards version) 2 0 in
      ap₂ (λ xs ys. xs ++ ys) (counted ∙ bytes_back 2 bytes version_field 4 small (omega (arith, s.long)))
      (ap (all_bytes 4) offsets-back ∙ bytes_back 4 bytes survival_field k small (omega (arith, s.long)))
      ∙ sym (take-add survival_field (4 * k) bytes)
      ∙ ap (λ l. take l bytes) h

  pub file-back : file_of (deck_in bytes) ≡ bytes
  unfolding file_of deck_in
  file-back =
      let n = fans in
      let m = count_in bytes in
      let f = board_fans version n in
      let from = systems_offset version n boards in
      let fits : from + 2 * (5 * m) ≡ length bytes = omega (arith, s.whole) in
      rw (
        below_length n (nth_number survival_bytes bytes (survival_offset version)),
        below_length boards (nth_number survival_bytes bytes (switchboards_offset version n)),
        below_length m (system_in bytes),
        header-back,
        numbers_of bytes from m,
        bytes_back survival_bytes bytes (survival_offset version) n small (omega arith),
        bytes_back weight_bytes bytes (weights_offset version n) n small (omega arith),
        bytes_back board_bytes bytes (boards_offset version n) f small (omega arith),
        bytes_back survival_bytes bytes (switchboards_offset version n) boards small (omega arith),
        bytes_back 2 bytes from (5 * m) small (omega arith),
        ← take-add (survival_offset version) (survival_bytes * n) bytes,
        ← take-add (weights_offset version n) (weight_bytes * n) bytes,
        ← take-add (boards_offset version n) (board_bytes * f) bytes,
        ← take-add (switchboards_offset version n) (survival_bytes * boards) bytes,
        ← take-add from (2 * (5 * m)) bytes,
      )
      (take_all (from + 2 * (5 * m)) bytes (omega arith))

  pub deck-bounds : Bounds (deck_in bytes)
  unfolding deck_in
  deck-bounds =
      let n = fans in
      let m = count_in bytes in
      let as_many : length (deck_in bytes).survival ≡ n = below_length n _ in
      let as-boards : length (deck_in bytes).switchboards ≡ boards = below_length boards _ in
      let systems : length (deck_in bytes).systems ≡ m = below_length m _ in
      let from = systems_offset version n boards in
      record {
        versioned = s.versioned;
        some_fan = omega (arith, s.some_fan);
        most_fans = omega (arith, s.most_fans);
        weighed = below_length n _ ∙ sym as_many;
        some_system = omega (arith, s.some_system);
        most-systems = omega (arith, s.most-systems);
        counted = rw as-boards s.counted;
        placed = rw (as-boards, as_many) s.placed;
        own_boards = read-own version n _;
        own_numbers = read-own version (number_at 4 bytes board_count_field) _;
        survival_fits = under-below n _ (λ i. number_fits survival_bytes bytes (survival_offset version + survival_bytes * i) small);
        weights_fit = under-below n _ (λ i. number_fits weight_bytes bytes (weights_offset version n + weight_bytes * i) small);
        boards_fit = under-below boards _ (λ i. number_fits survival_bytes bytes (switchboards_offset version n + survival_bytes * i) small);
        systems_fit = rw (numbers_of bytes from m) (under-below (5 * m) _ (λ i. number_fits 2 bytes (from + 2 * i) small));
      }

pub accepted-exactly : (bytes : List ℕ) → Bytes bytes → (file_refusal bytes ≡ 0) ↔ ((d : Deck) × Bounds d × (bytes ≡ file_of d))
accepted-exactly bytes small = (
  λ e. (deck_in bytes, deck-bounds bytes small e, sym (file-back bytes small e)),
  λ h. rw h.2 (file-accepted h.0 h.1),
)
