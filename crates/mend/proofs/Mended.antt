-- The mended file: it passes 10 to 13; version and counts are the file's, and survival numbers, weights, boards and rules byte for byte; mending it again changes
-- nothing, and so does mending a sound file. Its header is read back whatever follows it, and behind the header stand the file's own bytes. Assumes nothing.
use mathlib.Core.Path.{◌≡◌, sym, ap, ap₂, ◌∙◌}
use mathlib.Core.Bool.{false}
use mathlib.Core.List.{List, [], ◌∷◌, ◌++◌}
use Prim.Native.Nat.{ℕ, ◌+◌, ◌-◌, ◌≤◌, ◌<◌}
use native.Mathlib.Nat.{zero-add}
use native.Mathlib.Omega.{arith}
use lib.ListN.{length, get_or, take, drop, length-append, length-drop, take-append-drop}
use lib.Seq.{length-take-le, take_all, take_at, get_or-append-add, get_or-take, get_or-drop}
use borrow.Author.Tests.{le-ltb, le-leb, eq-eqb}
use Rattle.rules.specs.Below.{list_below}
use Rattle.rules.specs.Refusal.{first_of}
use Rattle.rules.specs.File.{number_at, nth_number, offsets_of, numbers_from, nth_system, zero_field, survival_field, weights_field, systems_field, shortest_header, header_length, header_of, file_length, board_fans, boards_elsewhere, length_in}
use Rattle.rules.specs.File.{survival_bytes, weight_bytes, board_bytes, survival_offset, weights_offset, boards_offset, switchboards_offset, systems_offset, version_in, fans_in, count_in, board_count_in, deck_in, misplaced_in, file_refusal}
use Rattle.rules.specs.Mending.{header_for, body_in, mended, changes_below, beyond_mending}
use Rattle.rules.proofs.Changes.{changes-upto}
use Rattle.layout.specs.Fits.{Bytes}
use Rattle.layout.proofs.Header as header
use Rattle.layout.proofs.Header.{header-length}
use Rattle.layout.proofs.Versions.{header-bounds}
use Rattle.deck.proofs.Sound.{sound}
use Rattle.layout.proofs.Numbers.{Same}
use Rattle.deck.proofs.File.{header-back}
use Rattle.mend.specs.Outcome.{Unchanged}
use Rattle.mend.proofs.Mendable.{Mendable, mendable, not_beyond, headed}
use Rattle.mend.proofs.Kept.{numbers-same, systems-same}

-- bytes that are mended to themselves have no changes
unchanged : (bytes : List ℕ) → beyond_mending bytes ≡ 0 → mended bytes ≡ bytes → length bytes ≡ length_in bytes → Unchanged bytes
unfolding changes_below
unchanged bytes none same whole = record {
  accepted = none;
  same = same;
  none_changed =
      ap (changes_below bytes (mended bytes)) (sym (zero-add (length (mended bytes))))
      ∙ changes-upto bytes (mended bytes) 0 (length (mended bytes)) (λ i l. ap (λ xs. get_or xs (0 + i) 0) (sym same));
  none_cut = omega (arith, whole);
}

-- a header that is the layout's, and a file that ends where its counts say, are left as they are
as-it-is : (bytes : List ℕ) → header_for bytes ≡ take (header_length (version_in bytes)) bytes → length bytes ≡ length_in bytes → mended bytes ≡ bytes
unfolding mended
as-it-is bytes head whole =
    let h = header_length (version_in bytes) in
    ap₂ (λ xs ys. xs ++ ys) head (take_all (length_in bytes - h) (drop h bytes) (omega (arith, whole, length-drop h bytes)))
    ∙ take-append-drop h bytes

module _ (bytes : List ℕ) (none : beyond_mending bytes ≡ 0) where
  abbrev ok : Mendable bytes
  ok = mendable bytes none

  abbrev v : ℕ
  v = version_in bytes

  abbrev n : ℕ
  n = fans_in bytes

  abbrev g : ℕ
  g = board_count_in bytes

  abbrev m : ℕ
  m = count_in bytes

  abbrev body : List ℕ
  body = body_in bytes

  header-fits : header_length v ≤ length_in bytes
  header-fits = omega arith

  body-length : length body ≡ length_in bytes - header_length v
  body-length = length-take-le (length_in bytes - header_length v) (drop (header_length v) bytes) (omega (arith, ok.whole, length-drop (header_length v) bytes))

  pub mended-length : length (mended bytes) ≡ length_in bytes
  unfolding mended
  mended-length = length-append (header_for bytes) body ∙ omega (arith, header-length v n g m, body-length, header-fits)

  -- version and counts are the file's
  pub version-kept : version_in (mended bytes) ≡ v
  unfolding mended
  version-kept = header.version-at (headed bytes ok) body

  pub fans-kept : fans_in (mended bytes) ≡ n
  unfolding mended
  fans-kept = header.fans-at (headed bytes ok) body

  pub systems-kept : count_in (mended bytes) ≡ m
  unfolding mended
  systems-kept = header.systems-at (headed bytes ok) body

  pub boards-kept : board_count_in (mended bytes) ≡ g
  unfolding mended
  boards-kept = header.board-count-at (headed bytes ok) body

  pub length-kept : length_in (mended bytes) ≡ length_in bytes
  length-kept = λ x. file_length (version-kept x) (fans-kept x) (boards-kept x) (systems-kept x)

  -- what follows the header is the file's, byte for byte
  pub body_kept : Same (mended bytes) bytes (header_length v) (length_in bytes)
  unfolding mended
  body_kept = record {
    byte = λ p h l.
        let i = p - header_length v in
        let at : p ≡ length (header_for bytes) + i = omega (arith, header-length v n g m) in
        let place : header_length v + i ≡ p = omega arith in
        ap (λ q. get_or (header_for bytes ++ body) q 0) at
        ∙ get_or-append-add (header_for bytes) body i 0
        ∙ get_or-take (length_in bytes - header_length v) (drop (header_length v) bytes) i 0 (omega arith)
        ∙ get_or-drop (header_length v) bytes i 0
        ∙ ap (λ q. get_or bytes q 0) place;
  }

  pub deck-kept : deck_in (mended bytes) ≡ deck_in bytes
  unfolding deck_in
  deck-kept =
      let from = systems_offset v n g in
      let survival = numbers-same body_kept survival_bytes (survival_offset v) n (omega arith) (omega arith) in
      let weights = numbers-same body_kept weight_bytes (weights_offset v n) n (omega arith) (omega arith) in
      let boards = numbers-same body_kept board_bytes (boards_offset v n) (board_fans v n) (omega arith) (omega arith) in
      let numbers = numbers-same body_kept survival_bytes (switchboards_offset v n) g (omega arith) (omega arith) in
      let systems = systems-same body_kept from m (omega arith) (omega arith) in
      (λ x. record {
        version = version-kept x;
        survival = numbers_from survival_bytes (mended bytes) (survival_offset (version-kept x)) (fans-kept x);
        weights = numbers_from weight_bytes (mended bytes) (weights_offset (version-kept x) (fans-kept x)) (fans-kept x);
        boards = numbers_from board_bytes (mended bytes) (boards_offset (version-kept x) (fans-kept x)) (board_fans (version-kept x) (fans-kept x));
        switchboards = numbers_from survival_bytes (mended bytes) (switchboards_offset (version-kept x) (fans-kept x)) (boards-kept x);
        systems = list_below (systems-kept x) (nth_system (mended bytes) (systems_offset (version-kept x) (fans-kept x) (boards-kept x)));
      })
      ∙ (λ x. record { version = v; survival = survival x; weights = weights x; boards = boards x; switchboards = numbers x; systems = systems x })

  -- zero field and offsets are the layout's
  zero-written : number_at 2 (mended bytes) zero_field ≡ 0
  unfolding mended
  zero-written = header.count_at (headed bytes ok) body 1 (omega arith)

  place-written : (i : ℕ) → i < 3 → nth_number 4 (mended bytes) survival_field i ≡ get_or (offsets_of v n g) i 0
  unfolding mended
  place-written = header.place_at (headed bytes ok) body

  boards-written : boards_elsewhere (mended bytes) ≡ false
  unfolding mended
  boards-written = header.boards-stand-at (headed bytes ok) body

  -- and the whole can be mended again
  again : Mendable (mended bytes)
  again = record {
    long = rw version-kept (omega (arith, mended-length, header-fits));
    versioned = rw version-kept ok.versioned;
    some_fan = omega (arith, fans-kept, ok.some_fan);
    most_fans = omega (arith, fans-kept, ok.most_fans);
    some_system = omega (arith, systems-kept, ok.some_system);
    most-systems = omega (arith, systems-kept, ok.most-systems);
    counted = rw (boards-kept, version-kept) ok.counted;
    whole = omega (arith, length-kept, mended-length);
  }

  -- "What it writes passes 10 to 13": nothing but 21 is left
  pub passes : file_refusal (mended bytes) ≡ first_of ((21, misplaced_in (mended bytes)) ∷ [])
  unfolding file_refusal first_of
  passes =
      let w = mended bytes in
      let nought : number_at 2 w zero_field ≡ 0 = zero-written in
      let survival : number_at 4 w survival_field ≡ survival_offset (version_in w) = rw version-kept (place-written 0 (omega arith)) in
      let weights : number_at 4 w weights_field ≡ weights_offset (version_in w) (fans_in w) = rw (version-kept, fans-kept) (place-written 1 (omega arith)) in
      let systems : number_at 4 w systems_field ≡ systems_offset (version_in w) (fans_in w) (board_count_in w) = rw (boards-kept, version-kept, fans-kept) (place-written 2 (omega arith)) in
      simp (
        le-ltb (length w) shortest_header (omega (arith, again.long, header-bounds (version_in w))),
        le-ltb (length w) (header_length (version_in w)) again.long,
        again.versioned,
        eq-eqb _ _ nought,
        le-leb _ _ again.some_fan,
        le-leb _ _ again.most_fans,
        le-leb _ _ again.some_system,
        le-leb _ _ again.most-systems,
        again.counted,
        eq-eqb _ _ survival,
        eq-eqb _ _ weights,
        eq-eqb _ _ systems,
        boards-written,
        eq-eqb (length w) (length_in w) (mended-length ∙ sym length-kept),
      )

  header-written : header_for (mended bytes) ≡ take (header_length (version_in (mended bytes))) (mended bytes)
  unfolding mended
  header-written =
      (λ x. header_of (version-kept x) (fans-kept x) (boards-kept x) (systems-kept x))
      ∙ sym (take_at (header_for bytes) body (header_length v) (header-length v n g m))
      ∙ ap (λ l. take l (mended bytes)) (ap header_length (sym version-kept))

  -- "mending twice changes nothing more"
  pub mended-again : Unchanged (mended bytes)
  mended-again =
      let whole = mended-length ∙ sym length-kept in
      unchanged (mended bytes) (not_beyond (mended bytes) again) (as-it-is (mended bytes) header-written whole) whole

-- "a sound file comes back the same"
pub sound-unchanged : (bytes : List ℕ) → Bytes bytes → file_refusal bytes ≡ 0 → Unchanged bytes
sound-unchanged bytes small accepted =
    let s = sound bytes accepted in
    let none = not_beyond bytes
    record {
      long = s.long;
      versioned = s.versioned;
      some_fan = s.some_fan;
      most_fans = s.most_fans;
      some_system = s.some_system;
      most-systems = s.most-systems;
      counted = s.counted;
      whole = omega (arith, s.whole);
    }
    in
    unchanged bytes none (as-it-is bytes (header-back bytes small accepted) s.whole) s.whole
