-- The call's contract settles its outcome: a file's figures are parts of its unit, and of those there is one nearest double below and one above. In version 1
-- nothing lies between, and the outcome is that of request 10's call. Assumes nothing.
use mathlib.Core.Path.{◌≡◌, refl, sym, ap, ◌∙◌, subst}
use mathlib.Core.Bool.{Bool, true, false, cond, not}
use mathlib.Core.List.{List}
use Prim.Native.Nat.{ℕ, ◌≤◌}
use lib.Dec.{eqb}
use Rattle.rules.specs.declared.Rating.{Rating}
use Rattle.rules.specs.declared.Rating.TheVariants as rating
use Rattle.rules.specs.State.{S, unit_of}
use Rattle.rules.specs.Asked.{Asked, unit_in, part_of, read_of, boards_of, switchboards_of}
use Rattle.rules.specs.Answer.{figures_of, unless}
use Rattle.rules.specs.Refusal.{first_of}
use Rattle.rules.specs.File.{version_in, short_file, file_refusal, deck_in, system_of, bad_number, loading_of}
use Rattle.rules.specs.Doubles.{other_refusal, export_of}
use Rattle.rules.proofs.Units.{unit-some, unit-most}
use Rattle.rules.proofs.Tests.{by-test}
use Rattle.rules.proofs.Unless.{unless-by}
use Rattle.rules.proofs.Boards.{behind-within}
use Rattle.rules.proofs.Accepted.{figures-ratable, figures-boarded}
use Rattle.doubles.specs.Floats.{Over}
use Rattle.nearest.specs.Nearest.{Nearest}
use Rattle.nearest.specs.Raised.{Within}
use Rattle.nearest.proofs.Once.{nearest-once, nearest-exact}
use Rattle.export.specs.declared.Chance.{Chance}
use Rattle.export.specs.declared.Chance.TheVariants.{Range, Refused}
use Rattle.export.specs.Outcome.{Tells, Exported}
use Rattle.export.proofs.Outcome.{Ones, one-chance}
use Rattle.between.specs.Outcome.{InUnit, Below, Above, Enclosed}

-- ---- a file's figures are parts of its unit

figures-in-unit : (q : Asked) (table : List ℕ) → InUnit (unit_in q) (figures_of q table)
unfolding figures_of
figures-in-unit q table =
    unless-by (InUnit (unit_in q)) _ rating.Refused _ tt
    (λ e.
    let units = (figures-ratable q table e).2.units in
    let part : (up : Bool) → Within (unit_in q) _ =
    λ up.
    record {
      some = unit-some q.version;
      most = unit-most q.version;
      part = behind-within (unit_in q) (unit-some q.version) q.rule (part_of q) (read_of q) (boards_of q) (switchboards_of q) units (figures-boarded q table e).1.units up;
    } in
    (part false, part true))

pub loading-in-unit : (file : List ℕ) (s : ℕ) → InUnit (unit_of (version_in file)) (loading_of file s)
unfolding loading_of system_of deck_in
loading-in-unit file s =
    unless-by (InUnit (unit_of (version_in file))) _ rating.Refused _ tt
    (λ e. by-test (InUnit (unit_of (version_in file))) (bad_number file s) _ _ (λ b. tt) (λ b. figures-in-unit _ _))

-- what is told in the file's unit of the file's answer is the outcome
pub enclosed : {file : List ℕ} {system : ℕ} (u : ℕ) (q : Rating) (r : Chance) → u ≡ unit_of (version_in file) → q ≡ loading_of file system
    → Tells (Nearest false u) (Nearest true u) q r → Enclosed file system r
enclosed {file} u q r is same t = record {
  answer = subst (λ (a : Rating). Tells (Below file) (Above file) a r) same (subst (λ (v : ℕ). Tells (Nearest false v) (Nearest true v) q r) is t);
}

-- ---- two outcomes are one

ones : (file : List ℕ) (q : Rating) → InUnit (unit_of (version_in file)) q → Ones (Below file) (Above file) q
ones file (rating.Range low high) h =
    (λ r t. nearest-once false (unit_of (version_in file)) low r t h.0, λ r t. nearest-once true (unit_of (version_in file)) high r t h.1)
ones file (rating.Refused n) h = tt

pub enclosed-ones : (file : List ℕ) (system : ℕ) → Ones (Below file) (Above file) (loading_of file system)
enclosed-ones file system = ones file (loading_of file system) (loading-in-unit file system)

pub same-enclosed : {file : List ℕ} {system : ℕ} {r r' : Chance} → Enclosed file system r → Enclosed file system r' → r ≡ r'
same-enclosed {file} {system} h k =
    one-chance (Below file) (Above file) (loading_of file system) (enclosed-ones file system) _ _ h.answer k.answer

-- ---- version 1

-- a refusal that stands first in both lists
short-first : {A : Type 0} (b : Bool) (n : ℕ) (refused : ℕ → A) (x : A) → unless (cond b 10 n) refused x ≡ unless (cond b 10 0) refused (unless (cond b 10 n) refused x)
unfolding unless
short-first true n refused x = refl
short-first false n refused x = refl

-- request 10's refusal of another version does not arise, and its refusal of a short file is the file's own
first-version : (file : List ℕ) (s : ℕ) → version_in file ≡ 1 → loading_of file s ≡ export_of file s
unfolding loading_of export_of other_refusal file_refusal first_of
first-version file s e =
    short-first (short_file file) _ rating.Refused _
    ∙ ap (λ (v : ℕ). unless (cond (short_file file) 10 (cond (not (eqb v 1)) 11 0)) rating.Refused (loading_of file s)) (sym e)

exact-ends : (u : ℕ) (q : Rating) (r : Chance) → u ≡ S → InUnit u q → Tells (Nearest false u) (Nearest true u) q r → Tells Over Over q r
exact-ends u (rating.Range low high) (Range e) is h t = record {
  lower = nearest-exact false low e.low (subst (λ (z : ℕ). low ≤ z) is h.0.part) (subst (λ (z : ℕ). Nearest false z low e.low) is t.lower);
  upper = nearest-exact true high e.high (subst (λ (z : ℕ). high ≤ z) is h.1.part) (subst (λ (z : ℕ). Nearest true z high e.high) is t.upper);
}
exact-ends u (rating.Range low high) (Refused n) is h t = t
exact-ends u (rating.Refused n) (Range e) is h t = t
exact-ends u (rating.Refused n) (Refused m) is h t = t

unit-of-one : unit_of 1 ≡ S
unfolding unit_of
unit-of-one = refl

pub in-version-one : {file : List ℕ} {system : ℕ} {r : Chance} → version_in file ≡ 1 → Enclosed file system r → Exported file system r
in-version-one {file} {system} {r} e h =
    let exact = exact-ends (unit_of (version_in file)) (loading_of file system) r (ap unit_of e ∙ unit-of-one) (loading-in-unit file system) h.answer in
    record { answer = subst (λ (q : Rating). Tells Over Over q r) (first-version file system e) exact }
