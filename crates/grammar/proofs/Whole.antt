-- A line's words one after another: where the next word leads tells how the line ends, or from where it goes on. Assumes nothing.
use mathlib.Core.Path.{◌≡◌, refl, ap, ◌∙◌}
use mathlib.Core.Bool.{Bool, true, false, cond, ◌&&◌}
use mathlib.Core.List.{List, []}
use Prim.Native.Nat.{ℕ, ◌-◌, ◌≤◌, ◌<◌}
use native.Mathlib.Omega.{arith}
use lib.Dec.{leb}
use lib.ListN.{drop}
use borrow.Author.Tests.{leb-true}
use Rattle.grammar.specs.Words.{words_on}
use Rattle.grammar.specs.Stands.{part, Spanned}
use Rattle.grammar.specs.Line.{Read, place_after, set_after, stopped, start_of, goes_on, walk}

pub start-few : (begun : Bool) → start_of begun ≤ 63
start-few true = omega arith
start-few false = omega arith

pub goes-few : (place : ℕ) → goes_on place ≡ true → place ≤ 63
goes-few place e = go (leb 1 place) (leb place 63) refl e
  where
    go : (x y : Bool) → leb place 63 ≡ y → x && y ≡ true → place ≤ 63
    go true y q h = leb-true place 63 (q ∙ h)
    go false y q h = absurd (let z : ◌≡◌ {A = ℕ} 0 1 = ap (λ t. cond t 1 0) h in omega arith)

module _ (line : List ℕ) (version place : ℕ) (set : List ℕ) (at from upto : ℕ) (next : Spanned line at from upto) where
  module _ (right : Read) (so : right ≡ walk version place set (words_on [] (drop at line))) where
    module _ (ended : ℕ) (after : List ℕ) (leads : ended ≡ place_after version place (part line from upto)) (sets : after ≡ set_after version place (part line from upto) set) where
      empty : from ≡ upto → part line from upto ≡ []
      empty e = let z : upto - from ≡ 0 = omega arith in rw z

      pub line-ends : from ≡ upto → right ≡ stopped ended (part line from upto) after
      unfolding walk
      line-ends e = so ∙ ap (walk version place set) (next.none e) ∙ rw (leads, sets, empty e)

      pub line-stops : from < upto → goes_on ended ≡ false → right ≡ stopped ended (part line from upto) after
      unfolding walk
      line-stops l g = so ∙ ap (walk version place set) (next.some l) ∙ rw (← leads, ← sets, g)

      pub line-goes : from < upto → goes_on ended ≡ true → right ≡ walk version ended after (words_on [] (drop upto line))
      unfolding walk
      line-goes l g = so ∙ ap (walk version place set) (next.some l) ∙ rw (← leads, ← sets, g)
