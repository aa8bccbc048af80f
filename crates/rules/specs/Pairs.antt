-- Document 02, request 05, kind 8: "one to four pairs (k, r), failing exactly if some r in a row hold fewer than k working, 1 <= k <= r <= 10 and r at
-- most n"; its verdict and its range. Its memory is row 8 of Memory.
use Rattle.std.specs.Prelude.{Bool, true, false, not, ◌||◌, ◌&&◌, List, [], ◌∷◌, ℕ, suc, ◌-◌, ◌%◌, ltb, leb, eqb, length}
use Rattle.rules.specs.declared.Pair.{Pair}
use Rattle.rules.specs.Below.{some, first, within}
use Rattle.rules.specs.State.{held_in, starts}

abbrev pub pair_of : (k r : ℕ) → Pair
pair_of k r = record { k = k; r = r }

-- the pairs of a flat list of numbers, two each; a last odd one is no pair
unfoldable pub pairs_in : List ℕ → List Pair
pairs_in [] = []
pairs_in (k ∷ []) = []
pairs_in (k ∷ r ∷ more) = pair_of k r ∷ pairs_in more

-- the pair (first, second), and the further ones
abbrev pub pairs_of : (first second : ℕ) (more : List ℕ) → List Pair
pairs_of first second more = pair_of first second ∷ pairs_in more

-- does q hold of some pair? of every pair?
unfoldable pub any_of : (q : Pair → Bool) → List Pair → Bool
any_of q [] = false
any_of q (p ∷ ps) = q p || any_of q ps

unfoldable pub all_of : (q : Pair → Bool) → List Pair → Bool
all_of q [] = true
all_of q (p ∷ ps) = q p && all_of q ps

-- of r components of which so many have failed: do fewer than k work?
abbrev pub too_few : Pair → (down : ℕ) → Bool
too_few p down = ltb (p.r - down) p.k

-- "some r in a row hold fewer than k working", on the line
abbrev pub lacking : (n w : ℕ) → Pair → Bool
lacking n w p = some (λ a. too_few p (held_in n a w p.r)) (starts false n p.r)

-- row 8 of the verdicts
unfoldable pub fails8 : List Pair → (n w : ℕ) → Bool
fails8 ps n w = any_of (lacking n w) ps

-- "A failing verdict names the lowest start of any failing window": does one start at component a + 1?
abbrev pub lacking_from : (n w a : ℕ) → Pair → Bool
lacking_from n w a p = ltb a (starts false n p.r) && too_few p (held_in n a w p.r)

unfoldable pub first_lacking : List Pair → (n w : ℕ) → ℕ
first_lacking ps n w = suc (first (λ a. any_of (lacking_from n w a) ps) n)

-- "1 <= k <= r <= 10 and r at most n"
abbrev pub longest_window : ℕ
longest_window = 10

abbrev pub good_pair : ℕ → Pair → Bool
good_pair n p = within 1 p.k p.r && (leb p.r longest_window && leb p.r n)

unfoldable pub in_range8 : (n : ℕ) → List Pair → Bool
in_range8 n ps = all_of (good_pair n) ps

-- "one to four pairs": the further numbers are not two each, or more than three pairs
abbrev pub most_more : ℕ
most_more = 6

abbrev pub bad_more : (more : List ℕ) → Bool
bad_more more = not (eqb (length more % 2) 0) || ltb most_more (length more)
