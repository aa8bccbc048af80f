-- What is read of boards' lists, and 20 and 21, by whether the version has boards. Assumes nothing.
use mathlib.Core.Path.{◌≡◌, refl, ◌∙◌}
use mathlib.Core.Bool.{Bool, true, false, cond, not, ◌&&◌, ◌||◌}
use mathlib.Core.List.{List, [], ◌∷◌}
use Prim.Native.Nat.{ℕ}
use lib.Dec.{eqb}
use lib.ListN.{length}
use borrow.Author.Tests.{eq-eqb, ne_eqb}
use Rattle.rules.specs.Below.{within}
use Rattle.rules.specs.Boards.{has_boards, boards_read}
use Rattle.rules.specs.Refusal.{some_above, most_boards, bad_boards, misplaced, first_of}
use Rattle.rules.proofs.Accepted.{first-after}
use Rattle.board_lists.specs.Refused.{boards_refusal}

-- no condition left
pub none_left : first_of [] ≡ 0
unfolding first_of
none_left = refl

pub read_some : (version : ℕ) (xs : List ℕ) → has_boards version ≡ true → boards_read version xs ≡ xs
read_some version xs e = rw e

pub read_none : (version : ℕ) (xs : List ℕ) → has_boards version ≡ false → boards_read version xs ≡ []
read_none version xs e = rw e

-- of lists as they are lent, and as they are read
pub boards-as-read : (version n : ℕ) (boards rated numbers : List ℕ)
    → boards_refusal version n (length numbers) boards rated ≡ boards_refusal version n (length (boards_read version numbers)) boards (boards_read version rated)
unfolding boards_refusal
boards-as-read version n boards rated numbers = go (has_boards version)
  where
    go : (b : Bool)
        → first_of ((20, b && not (within 1 (length numbers) most_boards)) ∷ (21, b && (not (eqb (length boards) n) || some_above (length numbers) rated)) ∷ [])
        ≡ first_of ((20, b && not (within 1 (length (cond b numbers [])) most_boards))
        ∷ (21, b && (not (eqb (length boards) n) || some_above (length (cond b numbers [])) (cond b rated []))) ∷ [])
    go true = refl
    go false = refl

module _ (version g : ℕ) where
  pub boards-some : has_boards version ≡ true → bad_boards version g ≡ not (within 1 g most_boards)
  boards-some e = rw e

  pub boards-none : has_boards version ≡ false → bad_boards version g ≡ false
  boards-none e = rw e

  module _ (n : ℕ) (boards rated : List ℕ) where
    pub misplaced-length : has_boards version ≡ true → (length boards ≡ n → ⊥) → misplaced version n g boards rated ≡ true
    misplaced-length e ne = rw (e, ne_eqb (length boards) n ne)

    pub misplaced-above : has_boards version ≡ true → length boards ≡ n → misplaced version n g boards rated ≡ some_above g rated
    misplaced-above e same = rw (e, eq-eqb (length boards) n same)

    pub misplaced-none : has_boards version ≡ false → misplaced version n g boards rated ≡ false
    misplaced-none e = rw e

    pub refused_none : has_boards version ≡ false → boards_refusal version n g boards rated ≡ 0
    unfolding boards_refusal
    refused_none e = first-after 20 _ _ (boards-none e) ∙ first-after 21 _ [] (misplaced-none e) ∙ none_left
