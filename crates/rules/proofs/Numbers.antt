-- A refusal's number is not 0, and no two refusals have one number: by cases on the refusal. What a `?` hands on has the number of the refusal that it met. Assumes nothing.
use mathlib.Core.Path.{◌≡◌, refl, sym, ap, ◌∙◌}
use mathlib.Core.List.{List, [], ◌∷◌}
use Rattle.std.proofs.Common.{Result}
use Rattle.std.specs.Result.{IsErrAnd}
use Rattle.std.proofs.lemmas.Result.{err_from_is_err_and}
use Prim.Native.Nat.{ℕ, ◌-◌, ◌<◌}
use native.Mathlib.Omega.{arith}
use lib.ListN.{get_or}
use Rattle.rules.specs.declared.refusal.Refusal.{Refusal}
use Rattle.rules.specs.declared.refusal.Refusal.TheVariants as refusal
use Rattle.rules.specs.Refusal.{number, refusal_in}

pub number-positive : (r : Refusal) → 0 < number r
number-positive refusal.Kind = omega arith
number-positive refusal.Size = omega arith
number-positive refusal.Stretch = omega arith
number-positive refusal.Survival = omega arith
number-positive refusal.Weights = omega arith
number-positive refusal.Range = omega arith
number-positive refusal.Table = omega arith
number-positive refusal.CountRoom = omega arith
number-positive refusal.State = omega arith
number-positive refusal.Short = omega arith
number-positive refusal.Version = omega arith
number-positive refusal.Systems = omega arith
number-positive refusal.Layout = omega arith
number-positive refusal.System = omega arith
number-positive refusal.Uncounted = omega arith
number-positive refusal.Room = omega arith
number-positive refusal.Fan = omega arith
number-positive refusal.Chance = omega arith
number-positive refusal.Grid = omega arith
number-positive refusal.Boards = omega arith
number-positive refusal.Board = omega arith
number-positive refusal.Cut = omega arith

pub number-some : (r : Refusal) → number r ≡ 0 → ⊥
number-some r e = omega (arith, number-positive r)

pub handed_on : {A : Type 0} (r : Result A Refusal) (met : Refusal) {refused : ℕ} → IsErrAnd r (λ e. e ≡ met) → number met ≡ refused → refusal_in r ≡ refused
handed_on r met err n = let p = err_from_is_err_and r err in rw (p.1, p.2) n

-- the refusal that has a number
abbrev named : ℕ → Refusal
named n = get_or (refusal.Kind ∷ refusal.Size ∷ refusal.Stretch ∷ refusal.Survival ∷ refusal.Weights ∷ refusal.Range ∷ refusal.Table ∷ refusal.CountRoom ∷ refusal.State ∷ refusal.Short ∷ refusal.Version ∷ refusal.Systems ∷ refusal.Layout ∷ refusal.System ∷ refusal.Uncounted ∷ refusal.Room ∷ refusal.Fan ∷ refusal.Chance ∷ refusal.Grid ∷ refusal.Boards ∷ refusal.Board ∷ refusal.Cut ∷ []) (n - 1) refusal.Kind

named-number : (r : Refusal) → named (number r) ≡ r
named-number refusal.Kind = refl
named-number refusal.Size = refl
named-number refusal.Stretch = refl
named-number refusal.Survival = refl
named-number refusal.Weights = refl
named-number refusal.Range = refl
named-number refusal.Table = refl
named-number refusal.CountRoom = refl
named-number refusal.State = refl
named-number refusal.Short = refl
named-number refusal.Version = refl
named-number refusal.Systems = refl
named-number refusal.Layout = refl
named-number refusal.System = refl
named-number refusal.Uncounted = refl
named-number refusal.Room = refl
named-number refusal.Fan = refl
named-number refusal.Chance = refl
named-number refusal.Grid = refl
named-number refusal.Boards = refl
named-number refusal.Board = refl
named-number refusal.Cut = refl

pub same-number : (r q : Refusal) → number r ≡ number q → r ≡ q
same-number r q e = sym (named-number r) ∙ ap named e ∙ named-number q
