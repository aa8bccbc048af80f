-- Request 11: "Versions 1 and 2 read as a deck without boards, unchanged: nothing of boards is read with them". What the figures, the worth, the file's reader and
-- the writer answered before there were boards stands here as it was, and with a version that has none they answer it still, whatever lists of boards they are
-- lent. Assumes nothing.
use mathlib.Core.Path.{◌≡◌, refl, sym, ap, ap₂, ◌∙◌}
use mathlib.Core.Bool.{Bool, true, false, cond, not, ◌&&◌, ◌||◌, or-false, and-true}
use mathlib.Core.List.{List, [], ◌∷◌, ◌++◌, append-nil}
use Prim.Native.Nat.{ℕ, suc, ◌+◌, ◌*◌, ◌≤◌}
use native.Mathlib.Omega.{arith}
use native.Mathlib.Decide.{dec_le}
use lib.Dec.{ltb, leb, eqb}
use lib.IntN.{ℤ, sub_ℕ}
use lib.ListN.{length}
use borrow.Author.Tests.{eq-eqb, eqb-false, le-leb, lt-leb}
use Rattle.rules.specs.declared.Rating.{Rating}
use Rattle.rules.specs.declared.Rating.TheVariants as rating
use Rattle.rules.specs.declared.Worth.{Worth}
use Rattle.rules.specs.declared.Worth.TheVariants as worth
use Rattle.rules.specs.Below.{some, within, list_below}
use Rattle.rules.specs.Figure.{figure, low, high, exact}
use Rattle.rules.specs.Boards.{has_boards}
use Rattle.rules.specs.Asked.{Asked, unit_in, length_of, size_of, part_of, weights_of, read_of, parts_of, rounded_of, exact_of}
use Rattle.rules.specs.Refusal.{last_version, bad_version, bad_kind, bad_size, bad_stretch, some_above, bad_weights, in_range, short_table, first_of, after, figures_refusal}
use Rattle.rules.specs.Answer.{unless, figures_of}
use Rattle.rules.specs.Worth.{working, failing, bad_fan, worth_of}
use Rattle.rules.specs.File.{Deck, number_at, numbers_from, all_bytes, nth_system, system_numbers, systems_of, header_length, board_count_field, board_fans, boards_offset, switchboards_offset, systems_offset, board_count_in, header_of, file_of, version_in, fans_in, count_in, bad_systems, bad_layout, deck_in, file_refusal}
use Rattle.rules.specs.Writing.{Typed, unpaired, bad_fives, short_for, bytes_for, write_refusal}
use Rattle.rules.proofs.Boards.{figure-none, exact_none}
use Rattle.rules.proofs.Accepted.{first-same, first-after}

-- 11, request 08: "for versions other than 1 and 2"
abbrev bad_version_before : (version : ℕ) → Bool
bad_version_before version = not (within 1 version 2)

version-before : (version : ℕ) → has_boards version ≡ false → bad_version version ≡ bad_version_before version
version-before version none = ap (λ x. not (leb 1 version && x)) (go (dec_le version 2))
  where
    go : Dec (version ≤ 2) → leb version last_version ≡ leb version 2
    go (yes l) = rw (le-leb version last_version (omega arith), le-leb version 2 l)
    go (no l) = rw (lt-leb version last_version (omega (arith, eqb-false version 3 none)), lt-leb version 2 (omega arith))

-- ---- the figures and the worth

unfoldable pub refusal_before : Asked → (table : List ℕ) → ℕ
refusal_before q table =
    first_of
    ((11, bad_version_before q.version)
    ∷ (1, bad_kind q.rule)
    ∷ (2, bad_size (length_of q))
    ∷ (3, bad_stretch q.a q.b (length_of q))
    ∷ (4, some_above (unit_in q) (part_of q))
    ∷ (5, bad_weights q.rule (length_of q) q.weights (weights_of q))
    ∷ (6, not (in_range q.rule (size_of q) (read_of q)))
    ∷ (7, short_table table)
    ∷ [])

abbrev pub low_before : Asked → ℕ
low_before q = low (unit_in q) q.rule (part_of q) (read_of q)

abbrev pub high_before : Asked → ℕ
high_before q = high (unit_in q) q.rule (part_of q) (read_of q)

abbrev pub rating_before : Asked → (table : List ℕ) → Rating
rating_before q table = unless (refusal_before q table) rating.Refused (rating.Range (low_before q) (high_before q))

abbrev pub lower_before : Asked → (fan : ℕ) → ℤ
lower_before q fan = sub_ℕ (low_before (working fan q)) (high_before (failing fan q))

abbrev pub upper_before : Asked → (fan : ℕ) → ℤ
upper_before q fan = sub_ℕ (high_before (working fan q)) (low_before (failing fan q))

abbrev pub worth_before : Asked → (fan : ℕ) (table : List ℕ) → Worth
worth_before q fan table =
    unless (after (refusal_before q table) (cond (bad_fan q fan) 17 0)) worth.Refused (worth.Ends (lower_before q fan) (upper_before q fan))

module _ (q : Asked) (none : has_boards q.version ≡ false) where
  pub rounded-before : (up : Bool) → rounded_of up q ≡ figure up (unit_in q) q.rule (part_of q) (read_of q)
  rounded-before up = rw none (figure-none up (unit_in q) q.rule (part_of q) (read_of q) [])

  pub exact-before : exact_of q ≡ exact (unit_in q) q.rule (part_of q) (read_of q)
  exact-before = rw none (exact_none (unit_in q) q.rule (part_of q) (read_of q) [])

  pub parts-before : parts_of q ≡ size_of q
  parts-before = rw none (omega arith)

  pub refusal-before : (table : List ℕ) → figures_refusal q table ≡ refusal_before q table
  unfolding figures_refusal refusal_before first_of some_above some
  refusal-before table = rw (version-before q.version none, none, or-false)

pub figures-before : (q : Asked) (table : List ℕ) → has_boards q.version ≡ false → figures_of q table ≡ rating_before q table
unfolding figures_of
figures-before q table none = rw (refusal-before q none table, rounded-before q none false, rounded-before q none true)

pub worth-before : (q : Asked) (fan : ℕ) (table : List ℕ) → has_boards q.version ≡ false → worth_of q fan table ≡ worth_before q fan table
unfolding worth_of
worth-before q fan table none =
    rw (
      refusal-before q none table,
      rounded-before (working fan q) none false,
      rounded-before (working fan q) none true,
      rounded-before (failing fan q) none false,
      rounded-before (failing fan q) none true,
    )

-- ---- the file

abbrev bad_layout_before : List ℕ → Bool
bad_layout_before bytes =
    let n = fans_in bytes in
    not
    (eqb (number_at 4 bytes 8) 20
    && eqb (number_at 4 bytes 12) (20 + 4 * n)
    && eqb (number_at 4 bytes 16) (20 + 4 * n + 2 * n)
    && eqb (length bytes) (20 + 4 * n + 2 * n + 10 * count_in bytes))

unfoldable pub file_refusal_before : List ℕ → ℕ
file_refusal_before bytes =
    first_of
    ((10, ltb (length bytes) 20)
    ∷ (11, bad_version_before (version_in bytes) || not (eqb (number_at 2 bytes 2) 0))
    ∷ (2, bad_size (fans_in bytes))
    ∷ (12, bad_systems bytes)
    ∷ (13, bad_layout_before bytes)
    ∷ [])

abbrev pub deck_before : List ℕ → Deck
deck_before bytes =
    let n = fans_in bytes in
    record {
      version = version_in bytes;
      survival = numbers_from 4 bytes 20 n;
      weights = numbers_from 2 bytes (20 + 4 * n) n;
      boards = [];
      switchboards = [];
      systems = list_below (count_in bytes) (nth_system bytes (20 + 4 * n + 2 * n));
    }

-- no board byte and no board's number
offset-before : (version n g : ℕ) → has_boards version ≡ false → systems_offset version n (cond (has_boards version) g 0) ≡ 20 + 4 * n + 2 * n
offset-before version n g none = rw none (omega arith)

module _ (bytes : List ℕ) (none : has_boards (version_in bytes) ≡ false) where
  layout-before : bad_layout bytes ≡ bad_layout_before bytes
  layout-before = rw (offset-before (version_in bytes) (fans_in bytes) (number_at 4 bytes board_count_field) none, none, and-true)

  pub file-refusal-before : file_refusal bytes ≡ file_refusal_before bytes
  unfolding file_refusal file_refusal_before
  file-refusal-before =
      first-same 10 _ _ _ _ refl (λ long.
      first-same 11 _ _ _ _ (ap (λ b. b || not (eqb (number_at 2 bytes 2) 0)) (version-before (version_in bytes) none)) (λ eleven.
      first-after 10 _ _ (rw none long)
      ∙ first-same 2 _ _ _ _ refl (λ two. first-same 12 _ _ _ _ refl (λ twelve.
      first-after 20 _ _ (rw none)
      ∙ first-same 13 _ _ _ _ layout-before (λ laid. first-after 21 _ _ (rw none))))))

  pub deck-before : deck_in bytes ≡ deck_before bytes
  unfolding deck_in list_below
  deck-before =
      let version = version_in bytes in
      let n = fans_in bytes in
      let header : header_length version ≡ 20 = rw none in
      let fans : board_fans version n ≡ 0 = rw none in
      let count : board_count_in bytes ≡ 0 = rw none in
      let from = offset-before version n (number_at 4 bytes board_count_field) none in
      λ x. record {
        version = version;
        survival = numbers_from 4 bytes (header x) n;
        weights = numbers_from 2 bytes (header x + 4 * n) n;
        boards = numbers_from 1 bytes (boards_offset version n) (fans x);
        switchboards = numbers_from 4 bytes (switchboards_offset version n) (count x);
        systems = list_below (count_in bytes) (nth_system bytes (from x));
      }

-- ---- the writer

unfoldable pub bytes_before : Typed → List ℕ
bytes_before t =
    let n = length t.survival in
    let systems = systems_of t.numbers in
    all_bytes 2 (t.version ∷ 0 ∷ n ∷ length systems ∷ [])
    ++ all_bytes 4 (20 ∷ (20 + 4 * n) ∷ (20 + 4 * n + 2 * n) ∷ [])
    ++ all_bytes 4 t.survival
    ++ all_bytes 2 t.weights
    ++ all_bytes 2 (system_numbers systems)

unfoldable pub write_refusal_before : Typed → (room : List ℕ) → ℕ
write_refusal_before t room =
    first_of
    ((11, bad_version_before t.version)
    ∷ (2, bad_size (length t.survival))
    ∷ (5, unpaired t)
    ∷ (12, bad_fives (length t.numbers))
    ∷ (16, ltb (length room) (length (bytes_before t)))
    ∷ [])

module _ (t : Typed) (none : has_boards t.version ≡ false) where
  pub bytes-before : bytes_for t ≡ bytes_before t
  unfolding file_of header_of bytes_before all_bytes
  bytes-before =
      let n = length t.survival in
      let from : 20 + 4 * n + 2 * n + 1 * 0 + 4 * 0 ≡ 20 + 4 * n + 2 * n = omega arith in
      rw (none, from, append-nil, append-nil)

  pub write-refusal-before : (room : List ℕ) → write_refusal t room ≡ write_refusal_before t room
  unfolding write_refusal write_refusal_before first_of
  write-refusal-before room = rw (version-before t.version none, bytes-before, none)
