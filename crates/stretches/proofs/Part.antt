-- The part that the code rates, where nothing is refused: it can be rated, and its figures are those asked for. A list that the kind does not read changes
-- nothing. Assumes nothing.
use Prim.Native.Nat.{ℕ, ◌≤◌}
use mathlib.Core.Path.{◌≡◌, refl, ap}
use mathlib.Core.Bool.{Bool, true, false, cond}
use mathlib.Core.Logic.{◌⊎◌, inl, inr, ⊎_elim}
use mathlib.Core.List.{List}
use native.Mathlib.Omega.{arith}
use lib.Dec.{eqb}
use lib.ListN.{length}
use borrow.Author.Tests.{eqb-false}
use Rattle.rules.specs.State.{beside_of}
use Rattle.rules.specs.Boards.{has_boards, behind, figure_behind}
use Rattle.rules.specs.Asked.{Asked, unit_in, length_of, part_of, weights_of, read_of, boards_of, switchboards_of, rounded_of}
use Rattle.rules.specs.Refusal.{bad_stretch, figures_refusal}
use Rattle.rules.specs.Accepted.{Boarded, Ratable}
use Rattle.rules.proofs.Boards.{combined-same}
use Rattle.rules.proofs.Accepted.{in-stretch, figures-ratable, figures-boarded}
use Rattle.rules.proofs.Unread.{Unread, accepted-unread, unread-figure}
use Rattle.asked.specs.Parts.{rated_of}
use Rattle.asked.proofs.Refused.{rated-same}

-- the weights that the code hands on, and what is read with the rule then
abbrev handed : Asked → List ℕ
handed q = rated_of q.rule (length_of q) q.weights q.a q.b

abbrev read : Asked → List ℕ
read q = beside_of q.rule (handed q) q.more

-- lists, and a unit, that are those of what is asked
pub record Handed (q : Asked) (u : ℕ) (survival weights boards switchboards : List ℕ) : Type 0 where
  pub unit : u ≡ unit_in q
  pub part : survival ≡ part_of q
  pub rated : weights ≡ handed q
  pub placed : boards ≡ boards_of q
  pub own : switchboards ≡ switchboards_of q

-- no refusal: the part can be rated, and its figures are those asked for
module _ (q : Asked) (table : List ℕ) (none : figures_refusal q table ≡ 0) where
  ratable : (bad_stretch q.a q.b (length_of q) ≡ false) × (q.rule.kind ≡ 2 → length q.weights ≡ length_of q) × Ratable (unit_in q) q.rule (part_of q) (read_of q) table
  ratable = figures-ratable q table none

  pub inside : bad_stretch q.a q.b (length_of q) ≡ false
  inside = ratable.0

  pub fits : (1 ≤ q.a) × (q.a ≤ q.b) × (q.b ≤ length_of q)
  fits = in-stretch q.a q.b (length_of q) inside

  same : (read q ≡ read_of q) ⊎ Unread q.rule.kind
  same =
      ⊎_elim (λ s. inl (ap (λ ws. beside_of q.rule ws q.more) s)) (λ not_two. by-eight not_two (eqb q.rule.kind 8) refl)
      (rated-same q.rule (length_of q) q.weights q.a q.b ratable.1)
    where
      by-eight : (q.rule.kind ≡ 2 → ⊥) → (b : Bool) → eqb q.rule.kind 8 ≡ b → (cond b q.more (handed q) ≡ cond b q.more (weights_of q)) ⊎ Unread q.rule.kind
      by-eight not_two true e = inl refl
      by-eight not_two false e = inr (record { not_two = not_two; not_eight = eqb-false _ _ e })

  part-ratable : Ratable (unit_in q) q.rule (part_of q) (read q) table
  part-ratable =
      let y = ratable.2 in
      record { accepted = ⊎_elim (λ s. rw s y.accepted) (accepted-unread y.accepted) same; units = y.units; room = y.room }

  part-figure : (up : Bool) → figure_behind up (unit_in q) q.rule (part_of q) (read q) (boards_of q) (switchboards_of q) ≡ rounded_of up q
  part-figure up =
      ⊎_elim (λ s. rw s)
      (λ k. combined-same up (unit_in q) (switchboards_of q) _ _
      (λ out. unread-figure up (unit_in q) q.rule (behind (boards_of q) out (part_of q)) (read q) (read_of q) k))
      same

  -- its boards can be combined, and there is a board number for each fan where the version has them
  part-boarded : Boarded (unit_in q) (boards_of q) (switchboards_of q)
  part-boarded = (figures-boarded q table none).1

  pub listed : has_boards q.version ≡ true → q.b ≤ length q.boards
  listed has = omega (arith, fits, (figures-boarded q table none).0 has)

  module _ {u : ℕ} {survival weights boards switchboards : List ℕ} (h : Handed q u survival weights boards switchboards) where
    pub handed-able : Ratable u q.rule survival (beside_of q.rule weights q.more) table × Boarded u boards switchboards
    handed-able = rw (h.unit, h.part, h.rated, h.placed, h.own) (part-ratable, part-boarded)

    pub handed-figure : (up : Bool) → figure_behind up u q.rule survival (beside_of q.rule weights q.more) boards switchboards ≡ rounded_of up q
    handed-figure up = rw (h.unit, h.part, h.rated, h.placed, h.own) (part-figure up)
