-- One cell stored, and two: what stands there, and every other cell as it was. Assumes nothing.
use mathlib.Core.Path.{◌≡◌, ◌∙◌}
use mathlib.Core.List.{List}
use Prim.Native.Nat.{ℕ, ◌≤◌, ◌<◌}
use native.Mathlib.Omega.{arith}
use lib.ListN.{length, get_or, set}
use lib.Seq.{get_or-set_same, get_or-set_other}
use Rattle.rules.specs.Refusal.{cells}
use Rattle.places.specs.Cells.{Kept}
use Rattle.places.proofs.Cells.{kept-none, kept_set, kept_trans, room-kept}

pub record Stored (a x : ℕ) (t₀ t : List ℕ) : Type 0 where
  pub here : get_or t a 0 ≡ x
  pub other : (c : ℕ) → (c ≡ a → ⊥) → get_or t c 0 ≡ get_or t₀ c 0
  pub kept : Kept t₀ t

pub stored : (t : List ℕ) (a x : ℕ) → a < cells → cells ≤ length t → Stored a x t (set t a x)
stored t a x l room = record {
  here = get_or-set_same t a x 0 (omega arith);
  other = λ c away. get_or-set_other t a c x 0 away;
  kept = kept_set a x l kept-none;
}

pub record Two (a x b y : ℕ) (t₀ t : List ℕ) : Type 0 where
  pub first : get_or t a 0 ≡ x
  pub second : get_or t b 0 ≡ y
  pub other : (c : ℕ) → (c ≡ a → ⊥) → (c ≡ b → ⊥) → get_or t c 0 ≡ get_or t₀ c 0
  pub kept : Kept t₀ t

pub two : (t : List ℕ) (a x b y : ℕ) → a < cells → b < cells → (a ≡ b → ⊥) → cells ≤ length t → Two a x b y t (set (set t a x) b y)
two t a x b y l m away room =
    let f = stored t a x l room in
    let g = stored (set t a x) b y m (room-kept f.kept room) in
    record {
      first = g.other a away ∙ f.here;
      second = g.here;
      other = λ c h k. g.other c k ∙ f.other c h;
      kept = kept_trans f.kept g.kept;
    }
