-- A call's answer by its refusal: where one applies, and where none does. Assumes nothing.
use mathlib.Core.Path.{◌≡◌, refl}
use Prim.Native.Nat.{ℕ, zero, suc}
use Rattle.rules.specs.Refusal.{after}
use Rattle.rules.specs.Answer.{unless}

pub unless-some : {A : Type 0} (r : ℕ) (refused : ℕ → A) (answer : A) → (r ≡ 0 → ⊥) → unless r refused answer ≡ refused r
unfolding unless
unless-some zero refused answer h = absurd (h refl)
unless-some (suc r) refused answer h = refl

pub unless-none : {A : Type 0} (r : ℕ) (refused : ℕ → A) (answer : A) → r ≡ 0 → unless r refused answer ≡ answer
unfolding unless
unless-none r refused answer e = rw e

-- what holds of every refusal, and of the answer where there is none
pub unless-by : {A : Type 0} (P : A → Type 0) (r : ℕ) (refused : ℕ → A) (answer : A) → P (refused r) → (r ≡ 0 → P answer) → P (unless r refused answer)
unfolding unless
unless-by P zero refused answer h l = l refl
unless-by P (suc r) refused answer h l = h

-- one refusal after another
pub after_none : (r next : ℕ) → r ≡ 0 → after r next ≡ next
unfolding after
after_none r next e = rw e

pub after-some : (r next : ℕ) → (r ≡ 0 → ⊥) → after r next ≡ r
unfolding after
after-some zero next h = absurd (h refl)
after-some (suc r) next h = refl
