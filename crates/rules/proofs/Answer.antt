-- Each answer by its cases is the answer as one equation: the refusal where there is one, else the values. One way by the cases of the answer, the
-- other by those of the refusal. Assumes nothing.
use mathlib.Core.Path.{◌≡◌, refl, sym, ap, ap₂, ◌∙◌}
use mathlib.Core.Logic.{◌↔◌}
use mathlib.Core.Bool.{Bool, true, false, cond}
use mathlib.Core.List.{List}
use Prim.Native.Nat.{ℕ, zero, suc}
use native.Mathlib.Omega.{arith}
use lib.ListN.{length}
use Rattle.rules.specs.declared.Verdict.{Verdict}
use Rattle.rules.specs.declared.Verdict.TheVariants as verdict
use Rattle.rules.specs.declared.Rating.{Rating}
use Rattle.rules.specs.declared.Rating.TheVariants as rating
use Rattle.rules.specs.declared.Counting.{Counting}
use Rattle.rules.specs.declared.Counting.TheVariants as counting
use Rattle.rules.specs.declared.Writing.{Writing}
use Rattle.rules.specs.declared.Writing.TheVariants as writing
use Rattle.rules.specs.declared.Mending.{Mending}
use Rattle.rules.specs.declared.Mending.TheVariants as mending
use Rattle.rules.specs.Answer.{unless, Given, Judges, judgment, Rates, Counts}
use Rattle.rules.specs.Writing.{Writes}
use Rattle.rules.specs.Mending.{mended, changed_in, cut_from, Mends}
use Rattle.rules.proofs.Unless.{unless-some, unless-none}

-- a case `Refused`, and a case that is none
pub given_is : {A : Type 0} (refused : ℕ → A) (answer : A) (number refusal : ℕ) → Given number refusal → refused number ≡ unless refusal refused answer
given_is refused answer number refusal g = ap refused g.0 ∙ sym (unless-some refusal refused answer (λ z. omega (arith, g.1)))

pub none_is : {A : Type 0} (refused : ℕ → A) (answer : A) {r : A} (refusal : ℕ) → refusal ≡ 0 → r ≡ answer → r ≡ unless refusal refused answer
none_is refused answer refusal z e = e ∙ sym (unless-none refusal refused answer z)

abbrev verdict_by : (refusal : ℕ) (failing : Bool) (place : ℕ) → Verdict
verdict_by refusal failing place = unless refusal verdict.Refused (judgment failing place)

pub judges : (r : Verdict) (refusal : ℕ) (failing : Bool) (place : ℕ) → Judges r refusal failing place ↔ (r ≡ verdict_by refusal failing place)
unfolding unless judgment
judges r refusal failing place = (to r, λ e. rw e (from refusal failing))
  where
    to : (r : Verdict) → Judges r refusal failing place → r ≡ verdict_by refusal failing place
    to verdict.Works h = none_is verdict.Refused _ refusal h.0 (rw h.1)
    to (verdict.Fails p) h = none_is verdict.Refused _ refusal h.0 (rw (h.1, h.2))
    to (verdict.Refused number) h = given_is verdict.Refused _ number refusal h

    from : (refusal : ℕ) (failing : Bool) → Judges (verdict_by refusal failing place) refusal failing place
    from zero false = (refl, refl)
    from zero true = (refl, refl, refl)
    from (suc q) failing = (refl, omega arith)

abbrev rating_by : (refusal low high : ℕ) → Rating
rating_by refusal low high = unless refusal rating.Refused (rating.Range low high)

pub rates : (r : Rating) (refusal low high : ℕ) → Rates r refusal low high ↔ (r ≡ rating_by refusal low high)
unfolding unless
rates r refusal low high = (to r, λ e. rw e (from refusal))
  where
    to : (r : Rating) → Rates r refusal low high → r ≡ rating_by refusal low high
    to (rating.Range l h) v = none_is rating.Refused _ refusal v.0 (ap₂ rating.Range v.1 v.2)
    to (rating.Refused number) v = given_is rating.Refused _ number refusal v

    from : (refusal : ℕ) → Rates (rating_by refusal low high) refusal low high
    from zero = (refl, refl, refl)
    from (suc q) = (refl, omega arith)

-- the same refusal, and where there is none the same figures: the same answer
pub rates-same : (r : Rating) {q q' l l' h h' : ℕ} → q ≡ q' → (q ≡ 0 → (l ≡ l') × (h ≡ h')) → Rates r q l h → Rates r q' l' h'
rates-same (rating.Range l h) e same v = (sym e ∙ v.0, v.1 ∙ (same v.0).0, v.2 ∙ (same v.0).1)
rates-same (rating.Refused number) e same v = (v.0 ∙ e, rw (← e) v.1)

abbrev counting_by : (refusal : ℕ) → Counting
counting_by refusal = unless refusal counting.Refused counting.Counted

pub counts : (r : Counting) (refusal : ℕ) → Counts r refusal ↔ (r ≡ counting_by refusal)
unfolding unless
counts r refusal = (to r, λ e. rw e (from refusal))
  where
    to : (r : Counting) → Counts r refusal → r ≡ counting_by refusal
    to counting.Counted h = none_is counting.Refused _ refusal h refl
    to (counting.Refused number) h = given_is counting.Refused _ number refusal h

    from : (refusal : ℕ) → Counts (counting_by refusal) refusal
    from zero = refl
    from (suc q) = (refl, omega arith)

abbrev writing_by : (refusal size : ℕ) → Writing
writing_by refusal size = unless refusal writing.Refused (writing.Written size)

pub writes : (r : Writing) (refusal size : ℕ) → Writes r refusal size ↔ (r ≡ writing_by refusal size)
unfolding unless
writes r refusal size = (to r, λ e. rw e (from refusal))
  where
    to : (r : Writing) → Writes r refusal size → r ≡ writing_by refusal size
    to (writing.Written l) h = none_is writing.Refused _ refusal h.0 (ap writing.Written h.1)
    to (writing.Refused number) h = given_is writing.Refused _ number refusal h

    from : (refusal : ℕ) → Writes (writing_by refusal size) refusal size
    from zero = (refl, refl)
    from (suc q) = (refl, omega arith)

abbrev mending_by : (refusal : ℕ) (bytes : List ℕ) → Mending
mending_by refusal bytes = unless refusal mending.Refused (mending.Mended (length (mended bytes)) (changed_in bytes) (cut_from bytes))

pub mends : (r : Mending) (refusal : ℕ) (bytes : List ℕ) → Mends r refusal bytes ↔ (r ≡ mending_by refusal bytes)
unfolding unless
mends r refusal bytes = (to r, λ e. rw e (from refusal))
  where
    to : (r : Mending) → Mends r refusal bytes → r ≡ mending_by refusal bytes
    to (mending.Mended size changed cut) h = none_is mending.Refused _ refusal h.0 (λ x. mending.Mended (h.1 x) (h.2 x) (h.3 x))
    to (mending.Refused number) h = given_is mending.Refused _ number refusal h

    from : (refusal : ℕ) → Mends (mending_by refusal bytes) refusal bytes
    from zero = (refl, refl, refl, refl)
    from (suc q) = (refl, omega arith)
