-- One number carries every rating: figures stay within the unit and refusals within the documents' numbers, so the number fits 64 bits, and it tells the
-- answer: ranges and refusals never collide. Assumes nothing.
use mathlib.Core.Path.{◌≡◌, ap, ap₂}
use mathlib.Core.Bool.{Bool, true, false}
use mathlib.Core.List.{List}
use Prim.Native.Nat.{ℕ, ◌≤◌}
use native.Mathlib.Omega.{arith}
use native.Mathlib.Nat.{le_trans}
use Rattle.rules.specs.declared.Rating.{Rating}
use Rattle.rules.specs.declared.Rating.TheVariants.{Range, Refused}
use Rattle.rules.specs.State.{S}
use Rattle.rules.specs.Asked.{Asked, unit_in, part_of, read_of, boards_of, switchboards_of, rounded_of}
use Rattle.rules.specs.Refusal.{figures_refusal}
use Rattle.rules.specs.Answer.{figures_of}
use Rattle.rules.specs.File.{packed}
use Rattle.rules.specs.Doubles.{Planned, planned_refusal, planned_rating}
use Rattle.rules.proofs.Units.{unit-some, unit-most}
use Rattle.rules.proofs.Unless.{unless-by}
use Rattle.rules.proofs.Boards.{behind-within}
use Rattle.rules.proofs.Accepted.{first-le, first-none, figures-ratable, figures-boarded}
use Rattle.rules.proofs.Doubles.{planned-within}
use Rattle.packing.specs.Packing.{most_refusal, Packable}

figures-le : (q : Asked) (table : List ℕ) → figures_refusal q table ≤ most_refusal
unfolding figures_refusal
figures-le q table =
    first-le 11 _ _ (omega arith) (first-le 1 _ _ (omega arith) (first-le 2 _ _ (omega arith) (first-le 3 _ _ (omega arith)
    (first-le 20 _ _ (omega arith) (first-le 21 _ _ (omega arith) (first-le 4 _ _ (omega arith)
    (first-le 5 _ _ (omega arith) (first-le 6 _ _ (omega arith) (first-le 7 _ _ (omega arith) (first-none most_refusal))))))))))

pub figures-packable : (q : Asked) (table : List ℕ) → Packable (figures_of q table)
unfolding figures_of
figures-packable q table =
    let within : (up : Bool) → figures_refusal q table ≡ 0 → rounded_of up q ≤ S =
    λ up e.
    le_trans
    (behind-within (unit_in q) (unit-some q.version) q.rule (part_of q) (read_of q) (boards_of q) (switchboards_of q) (figures-ratable q table e).2.units
    (figures-boarded q table e).1.units up)
    (unit-most q.version) in
    unless-by Packable _ Refused _ (figures-le q table) (λ e. (within false e, within true e))

-- so is every rating that is asked in floats
planned-le : (q : Planned) (table : List ℕ) → planned_refusal q table ≤ most_refusal
unfolding planned_refusal
planned-le q table =
    first-le 1 _ _ (omega arith) (first-le 2 _ _ (omega arith) (first-le 3 _ _ (omega arith) (first-le 18 _ _ (omega arith) (first-le 5 _ _ (omega arith)
    (first-le 6 _ _ (omega arith) (first-le 19 _ _ (omega arith) (first-le 7 _ _ (omega arith) (first-none most_refusal))))))))

pub planned-packable : (q : Planned) (table : List ℕ) → Packable (planned_rating q table)
unfolding planned_rating
planned-packable q table = unless-by Packable _ Refused _ (planned-le q table) (λ none. (planned-within q table none false, planned-within q table none true))

-- the number tells the answer
pub packed-tells : (r q : Rating) → Packable r → Packable q → packed r ≡ packed q → r ≡ q
packed-tells (Range l h) (Range m g) s t e =
    let low : l ≡ m = omega arith in
    let high : h ≡ g = omega arith in
    ap₂ Range low high
packed-tells (Range l h) (Refused n) s t e = absurd (omega arith)
packed-tells (Refused n) (Range l h) s t e = absurd (omega arith)
packed-tells (Refused n) (Refused k) s t e = let same : n ≡ k = omega arith in ap Refused same
