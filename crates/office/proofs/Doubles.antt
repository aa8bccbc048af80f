-- Doubles for C: what is told of a chance is what its cases say, 0 tells a chance from a refusal, the number of a rating tells it, and each contract settles
-- its outcome. Assumes nothing.
use mathlib.Core.Path.{◌≡◌, refl, sym, ap₂, ◌∙◌}
use mathlib.Core.List.{List, [], ◌∷◌}
use Prim.Native.Nat.{ℕ, zero, suc, ◌<◌}
use native.Mathlib.Omega.{arith}
use lib.ListN.{length, get_or, replicate}
use lib.Ieee.{Float, nan}
use Rattle.rules.specs.declared.Rating.{Rating}
use Rattle.rules.specs.declared.Rating.TheVariants as rating
use Rattle.rules.specs.Refusal.{cells}
use Rattle.rules.specs.Answer.{unless, figures_of}
use Rattle.rules.specs.File.{bad_number, system_of, packed, loading_of}
use Rattle.rules.specs.Doubles.{Planned, planned_rating, export_of}
use Rattle.rules.proofs.Tests.{by-test}
use Rattle.packing.proofs.Packed.{packed-tells, planned-packable}
use Rattle.doubles.specs.Floats.{Over}
use Rattle.export.specs.declared.Chance.{Chance}
use Rattle.export.specs.declared.Chance.TheVariants as chance
use Rattle.export.specs.Outcome.{Tells}
use Rattle.export.proofs.Outcome.{Ones, over_ones, export-within}
use Rattle.between.specs.Outcome.{Below, Above}
use Rattle.between.proofs.Outcome.{enclosed-ones}
use Rattle.office.specs.Outcome.{number_of, ends_after, Handed, Told, Bounded, Answered}

pub handed : (Low High : ℕ → Float → Type 0) (q : Rating) (r : Chance) (before : List Float) → Tells Low High q r
    → Handed Low High q before (ends_after r before) (number_of r)
handed Low High (rating.Range low high) (chance.Range e) before h = (refl, refl, h.lower, h.upper)
handed Low High (rating.Range low high) (chance.Refused n) before h = absurd h
handed Low High (rating.Refused number) (chance.Range e) before h = absurd h
handed Low High (rating.Refused number) (chance.Refused n) before h = (h, refl)

-- ---- any two outcomes that a contract allows are equal

two-same : (P Q : Float → Type 0) → ((x y : Float) → P x → P y → x ≡ y) → ((x y : Float) → Q x → Q y → x ≡ y) → (e d : List Float) → length e ≡ 2 → length d ≡ 2
    → P (get_or e 0 nan) → P (get_or d 0 nan) → Q (get_or e 1 nan) → Q (get_or d 1 nan) → e ≡ d
two-same P Q p q (x ∷ y ∷ []) (z ∷ w ∷ []) l m a b c d = ap₂ (λ (p q : Float). p ∷ q ∷ []) (p x z a b) (q y w c d)
two-same P Q p q [] d l m a b c f = absurd (omega arith)
two-same P Q p q (x ∷ []) d l m a b c f = absurd (omega arith)
two-same P Q p q (x ∷ y ∷ v ∷ e) d l m a b c f = absurd (omega arith)
two-same P Q p q (x ∷ y ∷ []) [] l m a b c f = absurd (omega arith)
two-same P Q p q (x ∷ y ∷ []) (z ∷ []) l m a b c f = absurd (omega arith)
two-same P Q p q (x ∷ y ∷ []) (z ∷ w ∷ v ∷ d) l m a b c f = absurd (omega arith)

same-handed : (Low High : ℕ → Float → Type 0) (q : Rating) → Ones Low High q → (before e d : List Float) (r t : ℕ) → Handed Low High q before e r
    → Handed Low High q before d t → (r ≡ t) × (e ≡ d)
same-handed Low High (rating.Range low high) s before e d r t h k =
    (h.0 ∙ sym k.0, two-same (Low low) (High high) s.0 s.1 e d h.1 k.1 h.2 k.2 h.3 k.3)
same-handed Low High (rating.Refused number) s before e d r t h k = (h.0 ∙ sym k.0, h.1 ∙ sym k.1)

pub same-told : {file : List ℕ} {system : ℕ} {before e d : List Float} {r t : ℕ} → Told file system before e r → Told file system before d t → (r ≡ t) × (e ≡ d)
same-told {file} {system} {before} {e} {d} {r} {t} h k =
    same-handed Over Over (export_of file system) (over_ones (export_of file system) (export-within file system)) before e d r t h.answer k.answer

pub same-bounded : {file : List ℕ} {system : ℕ} {before e d : List Float} {r t : ℕ} → Bounded file system before e r → Bounded file system before d t
    → (r ≡ t) × (e ≡ d)
same-bounded {file} {system} {before} {e} {d} {r} {t} h k =
    same-handed (Below file) (Above file) (loading_of file system) (enclosed-ones file system) before e d r t h.answer k.answer

pub same-answered : {q : Planned} {r t : ℕ} → Answered q r → Answered q t → r ≡ t
same-answered h k = h.number ∙ sym k.number

-- and equal numbers come of equal answers
pub one-rating : (q q' : Planned) → packed (planned_rating q (replicate cells 0)) ≡ packed (planned_rating q' (replicate cells 0))
    → planned_rating q (replicate cells 0) ≡ planned_rating q' (replicate cells 0)
one-rating q q' e = packed-tells _ _ (planned-packable q _) (planned-packable q' _) e

-- ---- no refusal has the number 0, so that 0 tells both ends

abbrev Numbered : Rating → Type 0
Numbered (rating.Range low high) = Unit {0}
Numbered (rating.Refused number) = 0 < number

numbered : (r : ℕ) (answer : Rating) → Numbered answer → Numbered (unless r rating.Refused answer)
unfolding unless
numbered zero answer h = h
numbered (suc r) answer h = omega arith

pub loading-numbered : (file : List ℕ) (system : ℕ) → Numbered (loading_of file system)
unfolding loading_of system_of figures_of
loading-numbered file system = numbered _ _ (by-test Numbered (bad_number file system) _ _ (λ b. omega arith) (λ b. numbered _ _ tt))

pub export-numbered : (file : List ℕ) (system : ℕ) → Numbered (export_of file system)
unfolding export_of
export-numbered file system = numbered _ _ (loading-numbered file system)
