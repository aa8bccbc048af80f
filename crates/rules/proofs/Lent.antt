-- "Earlier contents of either change no answer": of a lent table and of the room for counts a call reads the length alone, and what it writes comes of what was asked.
-- Assumes nothing.
use mathlib.Core.Path.{◌≡◌, ap}
use mathlib.Core.Bool.{Bool, cond, not}
use mathlib.Core.List.{List, [], ◌∷◌}
use Prim.Native.Nat.{ℕ, suc}
use lib.Dec.{ltb}
use lib.ListN.{length, take, drop, replicate, length-replicate}
use lib.Seq.{take_at}
use Rattle.rules.specs.declared.Rule.{Rule}
use Rattle.rules.specs.declared.Rating.TheVariants as rating
use Rattle.rules.specs.declared.Counting.TheVariants as counting
use Rattle.rules.specs.declared.Worth.TheVariants as worth
use Rattle.rules.specs.Asked.{Asked, length_of, size_of, weights_of, read_of, boards_of, board_count, low_of, high_of}
use Rattle.rules.specs.Count.{count_of, counts_of}
use Rattle.rules.specs.Refusal.{cells, first_of, after, bad_version, bad_kind, not_counted, bad_size, bad_stretch, bad_boards, misplaced, bad_weights, in_range, numbers_above, rating_refusal, figures_refusal, count_refusal}
use Rattle.rules.specs.Answer.{unless, figures_of, counting_of, cleared, room_after}
use Rattle.rules.specs.Worth.{lower_of, upper_of, bad_fan, worth_of}
use Rattle.rules.specs.Gain.{gain_lower, gain_upper, spare_above, gain_of}
use Rattle.rules.proofs.Lists.{below_length}

module _ (t u : List ℕ) (long : length t ≡ length u) where
  rating-lent : (four : Bool) (q : Asked) → rating_refusal four q t ≡ rating_refusal four q u
  rating-lent four q =
      λ i.
      first_of
      ((11, bad_version q.version)
      ∷ (1, bad_kind q.rule)
      ∷ (2, bad_size (length_of q))
      ∷ (3, bad_stretch q.a q.b (length_of q))
      ∷ (20, bad_boards q.version (board_count q))
      ∷ (21, misplaced q.version (length_of q) (board_count q) q.boards (boards_of q))
      ∷ (4, four)
      ∷ (5, bad_weights q.rule (length_of q) q.weights (weights_of q))
      ∷ (6, not (in_range q.rule (size_of q) (read_of q)))
      ∷ (7, ltb (long i) cells)
      ∷ [])

  pub lent-refusal : (q : Asked) → figures_refusal q t ≡ figures_refusal q u
  unfolding figures_refusal
  lent-refusal q = rating-lent (numbers_above q) q

  pub lent-figures : (q : Asked) → figures_of q t ≡ figures_of q u
  unfolding figures_of
  lent-figures q = ap (λ r. unless r rating.Refused (rating.Range (low_of q) (high_of q))) (lent-refusal q)

  pub lent-worth : (q : Asked) (fan : ℕ) → worth_of q fan t ≡ worth_of q fan u
  unfolding worth_of
  lent-worth q fan = ap (λ r. unless (after r (cond (bad_fan q fan) 17 0)) worth.Refused (worth.Ends (lower_of q fan) (upper_of q fan))) (lent-refusal q)

  pub lent-gain : (q : Asked) (fan p : ℕ) → gain_of q fan p t ≡ gain_of q fan p u
  unfolding gain_of
  lent-gain q fan p =
      ap (λ r. unless (after r (cond (bad_fan q fan) 17 0)) worth.Refused (worth.Ends (gain_lower q fan p) (gain_upper q fan p))) (rating-lent (spare_above q p) q)

  -- and of the room for the counts
  pub lent-counting : (rule : Rule) (n : ℕ) (weights room other : List ℕ) → length room ≡ length other → counting_of rule n weights t room ≡ counting_of rule n weights u other
  unfolding counting_of count_refusal
  lent-counting rule n weights room other e =
      λ i.
      unless
      (first_of
      ((1, bad_kind rule)
      ∷ (15, not_counted rule)
      ∷ (2, bad_size n)
      ∷ (5, bad_weights rule n weights weights)
      ∷ (6, not (in_range rule n weights))
      ∷ (7, ltb (long i) cells)
      ∷ (8, ltb (e i) (suc n))
      ∷ []))
      counting.Refused
      counting.Counted

-- what is written of them: zeros, and the counts
pub lent-cleared : (table : List ℕ) → take cells (cleared table) ≡ replicate cells 0
lent-cleared table = take_at (replicate cells 0) (drop cells table) cells (length-replicate {A = ℕ} cells 0)

pub lent-counts : (rule : Rule) (n : ℕ) (weights room : List ℕ) → take (suc n) (room_after 0 rule n weights room) ≡ counts_of rule n weights
unfolding room_after unless counts_of
lent-counts rule n weights room = take_at (counts_of rule n weights) (drop (suc n) room) (suc n) (below_length (suc n) (count_of rule n weights))
