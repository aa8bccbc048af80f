-- `some_above` meets its contract: a number that is found is above the limit at its place, and where none is found none is at any. Assumes nothing.
use mathlib.Core.Path.{◌≡◌, sym}
use mathlib.Core.Bool.{Bool, true, false}
use mathlib.Core.List.{List}
use Prim.Native.Nat.{ℕ, ◌≤◌, ◌<◌}
use lib.ListN.{length, get_or}
use borrow.Author.Rules.{rules}
use borrow.Author.Tests.{tests, lt-ltb, le-ltb}
use native.Mathlib.Omega.{arith}
use Rattle.std.specs.Bool.{MatchBool}
use Rattle.std.specs.List.{HoldsAt, AllWithin}
use Rattle.std.proofs.lemmas.Iterator.{cases_from_any, YieldsList-from_slice}
use Rattle.rules.specs.Refusal.{some_above}
use Rattle.rules.proofs.Windows.{some-found, some-none}
use Rattle.board_lists.proofs.some_above.Goals as goal

found : (g : ℕ) (xs : List ℕ) (r : Bool) → MatchBool r ((k : ℕ) × (k < length xs) × HoldsAt (λ x. g < x) xs k) (AllWithin (λ x. x ≤ g) xs 0 (length xs)) → r ≡ some_above g xs
unfolding some_above
found g xs true h = sym (some-found _ _ h.0 h.1 (lt-ltb _ _ (h.2 0)))
found g xs false h = sym ((some-none _ _).1 (λ k l e. let no = le-ltb g (get_or xs k 0) (h k 0 (omega arith) l) in cc))

pub returns : goal.returns
returns c =
    found _ _ _
    (cases_from_any _ _ _ (λ x. c.args.g < x) (λ x. x ≤ c.args.g) c.any.ensures.ran (YieldsList-from_slice c.args.boards.now cc)
    (λ x q k. search (rules, tests)) (λ x q k. search (rules, tests)))
