-- A group in arrays: the places passed are sorted into those that are alike with the best and the rest; and so are the rounds. Assumes nothing.
use mathlib.Core.Path.{◌≡◌, refl, sym, ap, ap₂, ◌∙◌}
use mathlib.Core.Bool.{Bool, true, false, not, cond, ◌&&◌}
use mathlib.Core.List.{List}
use Prim.Native.Nat.{ℕ, suc, ◌+◌, ◌≤◌, ◌<◌}
use native.Mathlib.Decide.{ℕ_discrete}
use native.Mathlib.Numerals.{add-one}
use native.Mathlib.Omega.{arith}
use lib.Dec.{leb}
use lib.ListN.{length, get_or, set, replicate, length-set}
use lib.Seq.{get_or-set_same, get_or-set_other}
use Rattle.rules.specs.Below.{held}
use Rattle.rules.specs.Refusal.{most}
use Rattle.rules.proofs.Sums.{held_same}
use Rattle.places.specs.declared.Ends.{Ends}
use Rattle.spares.specs.declared.Places.{Places}
use Rattle.spares.specs.Highest.{highest}
use Rattle.spare_lines.specs.Ranks.{reaches, left_in}
use Rattle.spare_lines.specs.Best.{ranked_in, Grouped}
use Rattle.spare_lines.proofs.Ranks.{less-leb, held-most}

-- is a place one of those left, and does it reach?
abbrev pub near : (left : List Bool) (high : List ℕ) (top h₀ : ℕ) → ℕ → Bool
near left high top h₀ j = left_in left j && leb top (get_or high j 0 + h₀)

abbrev pub far : (left : List Bool) (high : List ℕ) (top h₀ : ℕ) → ℕ → Bool
far left high top h₀ j = left_in left j && not (leb top (get_or high j 0 + h₀))

pub record Passed (left : List Bool) (high : List ℕ) (top h₀ i : ℕ) (rest alike : List Bool) (count : ℕ) : Type 0 where
  pub long : (length rest ≡ most) × (length alike ≡ most)
  pub others : (j : ℕ) → j < i → left_in rest j ≡ far left high top h₀ j
  pub members : (j : ℕ) → j < i → get_or alike j false ≡ near left high top h₀ j
  pub counted : count ≡ held (near left high top h₀) i

module _ (left : List Bool) (high : List ℕ) (top h₀ : ℕ) where
  pub none_passed : length left ≡ most → Passed left high top h₀ 0 left (replicate most false) 0
  unfolding held
  none_passed long = record { long = (long, refl); others = λ j l. absurd (omega arith); members = λ j l. absurd (omega arith); counted = refl }

  written : (xs : List Bool) (b : Bool) (f : ℕ → Bool) (i : ℕ) → i < length xs → b ≡ f i → ((j : ℕ) → j < i → get_or xs j false ≡ f j) → (j : ℕ) → j < i + 1
      → get_or (set xs i b) j false ≡ f j
  written xs b f i l is before j m =
      elim (ℕ_discrete j i) [
        | yes e ↦ rw e (get_or-set_same xs i b false l ∙ is)
        | no other ↦ get_or-set_other xs i j b false other ∙ before j (omega (arith, other))
      ]

  pub one-passed : {i count : ℕ} {rest alike : List Bool} → Passed left high top h₀ i rest alike count → i < most → {b o : Bool} {n : ℕ} → b ≡ near left high top h₀ i
      → o ≡ far left high top h₀ i → n ≡ cond b 1 0 → Passed left high top h₀ (i + 1) (set rest i o) (set alike i b) (count + n)
  unfolding held
  one-passed {i} {count} {rest} {alike} p few {b} {o} {n} is other counts = record {
    long = (length-set rest i o ∙ p.long.0, length-set alike i b ∙ p.long.1);
    others = written rest o (far left high top h₀) i (omega (arith, p.long.0)) other p.others;
    members = written alike b (near left high top h₀) i (omega (arith, p.long.1)) is p.members;
    counted = rw add-one (ap₂ ◌+◌ p.counted (counts ∙ ap (λ x. cond x 1 0) is));
  }

pub few-counted : {left : List Bool} {high : List ℕ} {top h₀ i : ℕ} {rest alike : List Bool} {count : ℕ} → Passed left high top h₀ i rest alike count → count ≤ i
few-counted {left} {high} {top} {h₀} {i} p = omega (arith, p.counted, held-most (near left high top h₀) i)

-- all of them
pub all-passed : {left rest alike : List Bool} (places : Places) (before : Ends) {size top count : ℕ}
    → top ≡ highest (λ i. get_or places.low i 0) (left_in left) size + before.low → Passed left places.high top before.high size rest alike count
    → Grouped (ranked_in size places before) (left_in left) rest alike count
all-passed {left} places before {size} {top} is p =
    let k = ranked_in size places before in
    let reached : (j : ℕ) → leb top (get_or places.high j 0 + before.high) ≡ reaches k (left_in left) j
    = λ j. ap (λ t. leb t (get_or places.high j 0 + before.high)) is ∙ sym (less-leb (highest k.low (left_in left) size) before.high (get_or places.high j 0) before.low) in
    record {
      long = p.long;
      others = λ j l. p.others j l ∙ ap (λ b. left_in left j && not b) (reached j);
      members = λ j l. p.members j l ∙ ap (λ b. left_in left j && b) (reached j);
      count = p.counted ∙ held_same _ _ size (λ j l. ap (λ b. left_in left j && b) (reached j));
    }
