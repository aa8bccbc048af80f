-- The answers of a deck that is not refused: a kind outside 1 to 8 is refused 1, and any other is answered or refused by 3, 4, 5 or 6. Of the other numbers that the
-- figures have, 11, 2, 20 and 21 were looked at when the file was read, and the table is long enough for 7. Assumes nothing.
use mathlib.Core.Path.{◌≡◌, refl, ap, ap₂, ◌∙◌}
use mathlib.Core.Bool.{Bool, true, false, cond, not, ◌&&◌, ◌||◌}
use mathlib.Core.List.{List, [], ◌∷◌}
use Prim.Native.Nat.{ℕ, suc, ◌+◌, ◌-◌, ◌≤◌}
use native.Mathlib.Omega.{arith}
use lib.Dec.{ltb, eqb}
use lib.ListN.{length, replicate, length-replicate}
use borrow.Author.Tests.{le-leb, le-ltb}
use Rattle.rules.specs.declared.Rating.{Rating}
use Rattle.rules.specs.declared.Rating.TheVariants.{Range, Refused}
use Rattle.rules.specs.Below.{within}
use Rattle.rules.specs.Boards.{has_boards, boards_read}
use Rattle.rules.specs.Stretch.{stretch}
use Rattle.rules.specs.Asked.{Asked, length_of, boards_of, board_count, low_of, high_of}
use Rattle.rules.specs.Refusal.{last_kind, cells, some_above, bad_version, bad_size, bad_boards, misplaced, short_table, first_of, figures_refusal}
use Rattle.rules.specs.Answer.{unless, figures_of}
use Rattle.rules.specs.File.{number_at, board_count_field, version_in, fans_in, board_count_in, system_in, deck_in, asked_by, file_refusal, system_of, answer_in}
use Rattle.rules.proofs.Lists.{below_length}
use Rattle.rules.proofs.Accepted.{first-of, first-after, stretch-get}
use Rattle.rules.proofs.Tests.{neither, by-test}
use Rattle.rules.proofs.Unless.{unless-some}
use Rattle.rules.proofs.Conditions.{none_above, above-none}
use Rattle.layout.proofs.Versions.{read-own}
use Rattle.deck.proofs.Sound.{sound}

-- what a system's answer is: a range, or refused by a number that its kind's line has
pub data Sorted : Rating → Type 0 where
  is-answered : (low high : ℕ) → Sorted (Range low high)
  by_three : Sorted (Refused 3)
  by-four : Sorted (Refused 4)
  by-five : Sorted (Refused 5)
  by-six : Sorted (Refused 6)

-- past the conditions that a file has met
listed : (low high : ℕ) (stretch p w r : Bool)
    → Sorted
    (unless (first_of ((11, false) ∷ (1, false) ∷ (2, false) ∷ (3, stretch) ∷ (20, false) ∷ (21, false) ∷ (4, p) ∷ (5, w) ∷ (6, r) ∷ (7, false) ∷ [])) Refused (Range low high))
unfolding first_of unless
listed low high true p w r = by_three
listed low high false true w r = by-four
listed low high false false true r = by-five
listed low high false false false true = by-six
listed low high false false false false = is-answered low high

-- board numbers within their range are so in a stretch
stretch-placed : (version n g a b : ℕ) (boards : List ℕ) → misplaced version n g boards boards ≡ false
    → misplaced version n g boards (boards_read version (stretch a b boards)) ≡ false
stretch-placed version n g a b boards = go (has_boards version)
  where
    within-stretch : some_above g boards ≡ false → some_above g (stretch a b boards) ≡ false
    within-stretch e =
        above-none g (stretch a b boards)
        (λ i. rw (stretch-get a b boards i) (by-test (λ x. x ≤ g) (ltb i (suc b - a)) _ _ (λ t. none_above g boards e (a - 1 + i)) (λ t. omega arith)))

    go : (t : Bool) → t && (not (eqb (length boards) n) || some_above g boards) ≡ false
        → t && (not (eqb (length boards) n) || some_above g (cond t (stretch a b boards) [])) ≡ false
    go true e = let h = neither (not (eqb (length boards) n)) (some_above g boards) e in rw (h.0, within-stretch h.1)
    go false e = refl

module _ (bytes : List ℕ) (accepted : file_refusal bytes ≡ 0) (s : ℕ) where
  abbrev q : Asked
  q = asked_by (deck_in bytes) (system_in bytes s)

  abbrev table : List ℕ
  table = replicate cells 0

  -- what was looked at when the file was read
  versioned : bad_version q.version ≡ false
  unfolding deck_in
  versioned = (sound bytes accepted).versioned

  as_many : length_of q ≡ fans_in bytes
  unfolding deck_in
  as_many = below_length (fans_in bytes) _

  sized : bad_size (length_of q) ≡ false
  sized = let b = sound bytes accepted in rw (as_many, le-leb 1 (fans_in bytes) b.some_fan, le-leb (fans_in bytes) 64 b.most_fans)

  as-boards : board_count q ≡ board_count_in bytes
  unfolding deck_in
  as-boards = ap length (read-own (version_in bytes) (number_at 4 bytes board_count_field) _) ∙ below_length (board_count_in bytes) _

  counted : bad_boards q.version (board_count q) ≡ false
  unfolding deck_in
  counted = ap (bad_boards (version_in bytes)) as-boards ∙ (sound bytes accepted).counted

  placed : misplaced q.version (length_of q) (board_count q) q.boards (boards_of q) ≡ false
  unfolding deck_in
  placed =
      ap₂ (λ n g. misplaced (version_in bytes) n g q.boards (boards_of q)) as_many as-boards
      ∙ stretch-placed (version_in bytes) (fans_in bytes) (board_count_in bytes) q.a q.b q.boards (sound bytes accepted).placed

  roomy : short_table table ≡ false
  roomy = le-ltb (length table) cells (omega (arith, length-replicate {A = ℕ} cells 0))

  -- a kind that there is not
  pub other-refused : within 1 q.rule.kind last_kind ≡ false → answer_in bytes s ≡ Refused 1
  unfolding system_of figures_of figures_refusal
  other-refused e =
      let is : figures_refusal q table ≡ 1 = first-after 11 _ _ versioned ∙ first-of 1 _ _ (ap not e) in
      ap (λ r. unless r Refused (Range (low_of q) (high_of q))) is ∙ unless-some 1 Refused _ (λ z. omega arith)

  -- a kind that there is
  pub sorted : within 1 q.rule.kind last_kind ≡ true → Sorted (answer_in bytes s)
  unfolding system_of figures_of figures_refusal
  sorted e = rw (versioned, e, sized, counted, placed, roomy) (listed (low_of q) (high_of q) _ _ _ _)
