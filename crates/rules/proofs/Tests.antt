-- What holds on either side of a test holds of what the test picks. Assumes nothing.
use mathlib.Core.Path.{◌≡◌, refl}
use mathlib.Core.Bool.{Bool, true, false, cond, not, ◌||◌, ◌&&◌, true≢false, false≢true}
use Prim.Native.Nat.{ℕ}
use lib.Dec.{ltb, leb}
use borrow.Author.Tests.{ltb-true, ltb-false, le-leb, lt-leb}

pub by-test : {A : Type 0} (P : A → Type 0) (b : Bool) (x y : A) → (b ≡ true → P x) → (b ≡ false → P y) → P (cond b x y)
by-test P true x y g h = g refl
by-test P false x y g h = h refl

pub by_both : {A B : Type 0} (P : A → B → Type 0) (b : Bool) (x y : A) (x' y' : B) → (b ≡ true → P x x') → (b ≡ false → P y y')
    → P (cond b x y) (cond b x' y')
by_both P true x y x' y' g h = g refl
by_both P false x y x' y' g h = h refl

pub both : (a b : Bool) → a && b ≡ true → (a ≡ true) × (b ≡ true)
both true b e = (refl, e)
both false b e = absurd (false≢true e)

pub neither : (a b : Bool) → a || b ≡ false → (a ≡ false) × (b ≡ false)
neither true b e = absurd (true≢false e)
neither false b e = (refl, e)

-- one test is the other turned round
pub not-leb : (a b : ℕ) → ltb a b ≡ not (leb b a)
not-leb a b = go (ltb a b) refl
  where
    go : (t : Bool) → ltb a b ≡ t → t ≡ not (leb b a)
    go true e = rw (lt-leb b a (ltb-true _ _ e))
    go false e = rw (le-leb b a (ltb-false _ _ e))
