-- The exact chance lies between the two doubles of every answer: each bounds a figure, and the figures enclose the exact chance. Assumes nothing.
use mathlib.Core.Path.{◌≡◌, refl, sym, ap, ◌∙◌}
use mathlib.Core.Bool.{Bool, true, false, cond}
use mathlib.Core.List.{List}
use Prim.Native.Nat.{ℕ, zero, suc, ◌-◌, ◌*◌, ◌^◌, ◌≤◌, ◌<◌}
use native.Mathlib.Nat.{le_trans, le_of_eq, mul-le-mul_right, mul_right_comm, mul_assoc, pow-suc}
use native.Mathlib.Omega.{arith}
use lib.ListN.{replicate}
use Rattle.rules.specs.declared.Rating.{Rating}
use Rattle.rules.specs.declared.Rating.TheVariants as rating
use Rattle.rules.specs.Asked.{Asked, unit_in, parts_of, exact_of}
use Rattle.rules.specs.Refusal.{cells}
use Rattle.rules.specs.Answer.{figures_of}
use Rattle.rules.specs.File.{bad_number, deck_in, system_of, loading_of}
use Rattle.rules.specs.Doubles.{parts, own}
use Rattle.rules.proofs.Accepted.{answered, figures-ratable, figures-third, stretch-length}
use Rattle.doubles.specs.Floats.{bits}
use Rattle.nearest.specs.Nearest.{Nearest}
use Rattle.export.specs.declared.Ends.{Ends}
use Rattle.export.specs.declared.Chance.TheVariants.{Range}
use Rattle.export.specs.Outcome.{Both, Tells}
use Rattle.between.specs.Outcome.{Below, Above, Enclosed, asked_in, Spans}

-- one factor of a power that has one
power : (u n : ℕ) → 0 < n → u ^ n ≡ u * u ^ (n - 1)
power u zero l = absurd (omega arith)
power u (suc k) l = pow-suc u k ∙ turn (u ^ k) u ∙ ap (λ (z : ℕ). u * u ^ z) (sym (before k))
  where
    turn : (p u : ℕ) → p * u ≡ u * p
    turn p u = omega arith

    before : (k : ℕ) → suc k - 1 ≡ k
    before k = omega arith

-- v is a double's own value, x a figure, p is 2^1074, c is u^(N-1)
spread : (v x u p c E : ℕ) → v * u ≤ x * p → x * c ≤ E → v * (u * c) ≤ E * p
spread v x u p c E h k =
    le_trans (le_of_eq (sym (mul_assoc v u c)))
    (le_trans (mul-le-mul_right c h) (le_trans (le_of_eq (mul_right_comm x p c)) (mul-le-mul_right p k)))

gather : (v x u p c E : ℕ) → x * p ≤ v * u → E ≤ x * c → E * p ≤ v * (u * c)
gather v x u p c E h k =
    le_trans (mul-le-mul_right p k)
    (le_trans (le_of_eq (mul_right_comm x c p)) (le_trans (mul-le-mul_right c h) (le_of_eq (mul_assoc v u c))))

-- some fan is rated
some-parts : (q : Asked) (table : List ℕ) (low high : ℕ) → figures_of q table ≡ rating.Range low high → 0 < parts_of q
unfolding figures_of
some-parts q table low high e =
    let s = figures-ratable q table (answered _ low high _ e).0 in
    omega (arith, stretch-length q.a q.b q.survival s.0, s.2.accepted.size_low)

figures-span : (q : Asked) (table : List ℕ) (low high : ℕ) (e : Ends) → figures_of q table ≡ rating.Range low high
    → Both (Nearest false (unit_in q)) (Nearest true (unit_in q)) low high e → Spans q e
figures-span q table low high e is t =
    let third = figures-third q table low high is in
    let u = unit_in q in
    let n = parts_of q in
    let one = power u n (some-parts q table low high is) in
    record {
      above_low = rw one (spread (own (bits e.low)) low u parts (u ^ (n - 1)) (exact_of q) t.lower.bounds third.above_low);
      below_high = rw one (gather (own (bits e.high)) high u parts (u ^ (n - 1)) (exact_of q) t.upper.bounds third.below_high);
    }

pub enclosed-spans : {file : List ℕ} {system : ℕ} {e : Ends} → Enclosed file system (Range e) → Spans (asked_in file system) e
unfolding loading_of system_of deck_in
enclosed-spans {file} {system} {e} h = go (loading_of file system) refl h.answer
  where
    numbered : (b : Bool) (x : Rating) (low high : ℕ) → cond b (rating.Refused 14) x ≡ rating.Range low high → x ≡ rating.Range low high
    numbered true x low high k = let z : ◌≡◌ {A = ℕ} 0 1 = cc in absurd (omega arith)
    numbered false x low high k = k

    go : (a : Rating) → loading_of file system ≡ a → Tells (Below file) (Above file) a (Range e) → Spans (asked_in file system) e
    go (rating.Range low high) is t =
        figures-span (asked_in file system) (replicate cells 0) low high e (numbered (bad_number file system) _ low high (answered _ low high _ is).1) t
    go (rating.Refused number) is t = absurd t
