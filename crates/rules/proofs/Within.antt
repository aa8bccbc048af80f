-- The figures of a rating are values of a memory, and stay within their unit, which is at most 2^30. Assumes nothing.
use mathlib.Core.Bool.{Bool, true, false}
use mathlib.Core.List.{List}
use Prim.Native.Nat.{ℕ, ◌≤◌}
use native.Mathlib.Nat.{le_trans}
use Rattle.rules.specs.declared.Rating.TheVariants.{Refused}
use Rattle.rules.specs.State.{S}
use Rattle.rules.specs.Asked.{Asked, unit_in, part_of, read_of, boards_of, switchboards_of, rounded_of}
use Rattle.rules.specs.Answer.{figures_of}
use Rattle.rules.specs.Within.{WithinUnit}
use Rattle.rules.specs.File.{system_of, bad_number, loading_of}
use Rattle.rules.proofs.Units.{unit-some, unit-most}
use Rattle.rules.proofs.Tests.{by-test}
use Rattle.rules.proofs.Unless.{unless-by}
use Rattle.rules.proofs.Boards.{behind-within}
use Rattle.rules.proofs.Accepted.{figures-ratable, figures-boarded}

pub figures-within : (q : Asked) (table : List ℕ) → WithinUnit (figures_of q table)
unfolding figures_of
figures-within q table =
    unless-by WithinUnit _ Refused _ tt
    (λ e.
    let units = (figures-ratable q table e).2.units in
    let within : (up : Bool) → rounded_of up q ≤ S =
    λ up.
    le_trans
    (behind-within (unit_in q) (unit-some q.version) q.rule (part_of q) (read_of q) (boards_of q) (switchboards_of q) units (figures-boarded q table e).1.units up)
    (unit-most q.version) in
    (within false, within true))

pub loading-within : (bytes : List ℕ) (s : ℕ) → WithinUnit (loading_of bytes s)
unfolding loading_of system_of
loading-within bytes s = unless-by WithinUnit _ Refused _ tt (λ e. by-test WithinUnit (bad_number bytes s) _ _ (λ b. tt) (λ b. figures-within _ _))
