-- Request 11: what is owed of the figures behind boards. The third condition over n + g parts: each set of failed boards has it over n, and a board's step carries
-- it one part further. Figures within the unit. A deck without boards has the figures and the E that it had. Assumes nothing.
use mathlib.Core.Path.{◌≡◌, refl, ap, ap₂, subst, sym, ◌∙◌}
use mathlib.Core.Bool.{Bool, true, false, cond}
use mathlib.Core.List.{List, [], ◌∷◌, append-nil}
use Prim.Native.Nat.{ℕ, zero, suc, ◌+◌, ◌*◌, ◌-◌, ◌^◌, ◌≤◌, ◌<◌}
use native.Mathlib.Omega.{arith}
use native.Mathlib.Decide.{dec_lt}
use native.Mathlib.Nat.{zero-div, add-zero, add-suc, div-eq_of_lt, mod-eq_of_lt}
use lib.ListN.{length, get_or, get_or-eq_default}
use Rattle.rules.specs.declared.Rule.{Rule}
use Rattle.rules.specs.State.{number_of}
use Rattle.rules.specs.Verdict.{works}
use Rattle.rules.specs.Figure.{figure, low, high, exact, exact_if, Third}
use Rattle.rules.specs.Boards.{board_down, lost, behind, combined, figure_behind, fans_down, works_behind, exact_behind}
use Rattle.rules.specs.Refusal.{in_range}
use Rattle.rules.proofs.Tests.{by-test}
use Rattle.rules.proofs.Lists.{below-is}
use Rattle.rules.proofs.Rounding.{step-le}
use Rattle.rules.proofs.Split.{exact_same}
use Rattle.rules.proofs.Enclosure.{third-step}
use Rattle.rules.proofs.Conditions.{below-unit, figure-within, third}
use Rattle.rules.proofs.Lost.{none-lost}
use Rattle.rules.proofs.Sets.{over_sets, behind-length, behind-number, exact-boards, sets-none, sets_first}

-- a list with fans at 0 has no number above the unit
pub behind-units : {u : ℕ} (boards : List ℕ) (out : ℕ) (survival : List ℕ) → ((i : ℕ) → get_or survival i 0 ≤ u) → (i : ℕ) → get_or (behind boards out survival) i 0 ≤ u
unfolding number_of
behind-units {u} boards out survival units i = go (dec_lt i (length survival))
  where
    go : Dec (i < length survival) → get_or (behind boards out survival) i 0 ≤ u
    go (yes l) = rw (behind-number boards out survival i l) (by-test (λ x. x ≤ u) (lost boards out (suc i)) _ _ (λ e. omega arith) (λ e. units i))
    go (no l) = rw (get_or-eq_default (behind boards out survival) 0 {n = i} (omega (arith, behind-length boards out survival))) (omega arith)

-- the numbers of the boards after the first
pub tail-units : {u : ℕ} (q : ℕ) (qs : List ℕ) → ((i : ℕ) → get_or (q ∷ qs) i 0 ≤ u) → (i : ℕ) → get_or qs i 0 ≤ u
tail-units q qs units i = units (suc i)

-- ---- combined

module _ (u : ℕ) (pos : 0 < u) where
  -- figures that meet the third condition for every set of failed boards
  third-combined : (qs : List ℕ) (n : ℕ) (low high e : ℕ → ℕ) → 0 < n → ((i : ℕ) → get_or qs i 0 ≤ u) → ((out : ℕ) → Third u n (low out) (high out) (e out))
      → Third u (n + length qs) (combined false u qs low) (combined true u qs high) (over_sets u qs e)
  unfolding combined
  third-combined [] n low high e some s t = rw (add-zero n, sets-none u e) (t 0)
  third-combined (q ∷ qs) n low high e some s t =
      rw (add-suc n (length qs), sets_first u q qs e)
      (third-step u (n + length qs) q _ _ _ _ _ _ pos (omega arith) (s 0)
      (third-combined qs n _ _ _ some (tail-units q qs s) (λ out. t (out * 2)))
      (third-combined qs n _ _ _ some (tail-units q qs s) (λ out. t (out * 2 + 1))))

  pub combined-le : (up : Bool) (qs : List ℕ) (f : ℕ → ℕ) → ((i : ℕ) → get_or qs i 0 ≤ u) → ((out : ℕ) → f out ≤ u) → combined up u qs f ≤ u
  unfolding combined
  combined-le up [] f s t = t 0
  combined-le up (q ∷ qs) f s t =
      let tail = tail-units q qs s in
      step-le up u q _ _ pos (s 0) (combined-le up qs _ tail (λ out. t (out * 2))) (combined-le up qs _ tail (λ out. t (out * 2 + 1)))

-- the same figures, set by set
pub combined-same : (up : Bool) (u : ℕ) (qs : List ℕ) (f f' : ℕ → ℕ) → ((out : ℕ) → f out ≡ f' out) → combined up u qs f ≡ combined up u qs f'
unfolding combined
combined-same up u [] f f' h = h 0
combined-same up u (q ∷ qs) f f' h =
    rw (combined-same up u qs _ (λ out. f' (out * 2)) (λ out. h (out * 2)), combined-same up u qs _ (λ out. f' (out * 2 + 1)) (λ out. h (out * 2 + 1)))

-- ---- of a list

module _ (u : ℕ) (pos : 0 < u) (rule : Rule) (survival beside boards switchboards : List ℕ) (units : (i : ℕ) → get_or survival i 0 ≤ u)
    (board-units : (i : ℕ) → get_or switchboards i 0 ≤ u) where
  abbrev n : ℕ
  n = length survival

  abbrev list : ℕ → List ℕ
  list out = behind boards out survival

  -- the third condition, over n + g parts
  pub third-boards : 1 ≤ n → in_range rule n beside ≡ true
      → Third u (n + length switchboards)
      (figure_behind false u rule survival beside boards switchboards)
      (figure_behind true u rule survival beside boards switchboards)
      (exact_behind u rule survival beside boards switchboards)
  third-boards some range =
      rw (exact-boards u rule survival beside boards (below-unit survival units) switchboards)
      (third-combined u pos switchboards n _ _ _ some board-units each)
    where
      each : (out : ℕ) → Third u n (low u rule (list out) beside) (high u rule (list out) beside) (exact u rule (list out) beside)
      each out =
          let e = behind-length boards out survival in
          subst (λ k. Third u k (low u rule (list out) beside) (high u rule (list out) beside) (exact u rule (list out) beside)) e
          (third pos rule (list out) beside (rw e some) (behind-units boards out survival units) (rw e range))

  -- within the unit
  pub behind-within : (up : Bool) → figure_behind up u rule survival beside boards switchboards ≤ u
  behind-within up =
      combined-le u pos up switchboards _ board-units
      (λ out. figure-within up pos rule (list out) beside (behind-units boards out survival units))

-- ---- no boards

none-down : (b : ℕ) → board_down 0 b ≡ false
unfolding board_down
none-down zero = refl
none-down (suc b) = rw (zero-div (2 ^ b))

pub behind-none : (boards survival : List ℕ) → behind boards 0 survival ≡ survival
unfolding behind number_of
behind-none boards survival = below-is survival 0 (length survival) _ refl (λ i l. rw (none-down (number_of boards (suc i))))

-- the figures and the E that there were, whatever the fans' board numbers
pub figure-none : (up : Bool) (u : ℕ) (rule : Rule) (survival beside boards : List ℕ)
    → figure_behind up u rule survival beside boards [] ≡ figure up u rule survival beside
unfolding combined
figure-none up u rule survival beside boards = ap (λ xs. figure up u rule xs beside) (behind-none boards survival)

pub exact_none : (u : ℕ) (rule : Rule) (survival beside boards : List ℕ) → exact_behind u rule survival beside boards [] ≡ exact u rule survival beside
unfolding works_behind
exact_none u rule survival beside boards =
    let n = length survival in
    ap₂ (λ xs k. exact_if (works_behind rule n beside boards) u (number_of xs) k) (append-nil survival) (add-zero n)
    ∙ exact_same _ (works rule n beside) u (number_of survival) n
    (λ w l.
    rw (div-eq_of_lt l, mod-eq_of_lt l)
    (ap (works rule n beside) (none-lost (lost boards 0) (λ i. none-down (number_of boards i)) n w l)))
