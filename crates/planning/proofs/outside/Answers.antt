-- `outside` has found a float that is no chance at its place, or passed none. Assumes nothing.
use borrow.Author.Rules.{rules}
use borrow.Author.Tests.{tests}
use mathlib.Core.Path.{◌≡◌, sym, ap, ◌∙◌}
use mathlib.Core.Bool.{Bool, true, false, not, true≢false}
use mathlib.Core.List.{List}
use Prim.Native.Nat.{ℕ, ◌<◌}
use native.Mathlib.Omega.{arith}
use lib.ListN.{length, length-map}
use Rattle.std.specs.Bool.{MatchBool}
use Rattle.std.specs.List.{HoldsAt, AllWithin}
use Rattle.std.specs.Prelude.{Float}
use Rattle.std.proofs.lemmas.Iterator.{cases_from_any, YieldsList-from_slice}
use Rattle.rules.specs.Doubles.{is_chance, no_chance}
use Rattle.rules.proofs.Windows.{some-found, some-none}
use Rattle.doubles.specs.Floats.{bits, bits_of}
use Rattle.doubles.proofs.Lists.{bits-get}
use Rattle.planning.proofs.outside.Goals as goal

found : (fs : List Float) (r : Bool)
    → MatchBool r ((k : ℕ) × (k < length fs) × HoldsAt (λ x. is_chance (bits x) ≡ false) fs k) (AllWithin (λ x. is_chance (bits x) ≡ true) fs 0 (length fs)) → r ≡ no_chance (bits_of fs)
unfolding no_chance
found fs true h = sym (some-found _ _ h.0 (rw (length-map fs bits) h.1) (ap (λ b. not (is_chance b)) (bits-get fs h.0 h.1) ∙ ap not (h.2 _)))
found fs false h =
    sym ((some-none _ _).1 (λ k l e.
    let m : k < length fs = rw (length-map fs bits) at l in
    true≢false (sym e ∙ ap (λ b. not (is_chance b)) (bits-get fs k m) ∙ ap not (h k _ (omega arith) m))))

pub returns : goal.returns
returns c =
    found _ _
    (cases_from_any _ _ _ (λ x. is_chance (bits x) ≡ false) (λ x. is_chance (bits x) ≡ true) c.any.ensures.ran (YieldsList-from_slice c.args.floats.now cc)
    (λ x q k. search (rules, tests)) (λ x q k. search (rules, tests)))
