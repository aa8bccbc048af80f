-- Request 04. Looking from the lowest place upward: what was passed, what was found, and that something is found exactly if it is there, by induction on
-- the bound. Then what a verdict's place means: under kinds 4 to 7 the system fails exactly if a failing window starts there and none starts lower.
-- Assumes nothing.
use mathlib.Core.Path.{◌≡◌, refl, sym, ap, ◌∙◌}
use mathlib.Core.Logic.{◌⊎◌, inl, inr, ◌↔◌}
use mathlib.Core.Bool.{Bool, true, false, cond, true≢false, ◌&&◌}
use mathlib.Core.List.{List, [], ◌∷◌}
use Prim.Native.Nat.{ℕ, zero, suc, min, ◌+◌, ◌≤◌, ◌<◌}
use native.Mathlib.Omega.{arith}
use native.Mathlib.Nat.{eq-or-lt_of_le, le_of_suc-le-suc, lt_of_not-le}
use native.Mathlib.Numerals.{add-one}
use lib.Dec.{leb, ltb}
use borrow.Author.Tests.{lt-ltb, le-ltb, ltb-true, leb-true, leb-false, le-leb, lt-leb}
use Rattle.rules.specs.declared.Rule.{Rule}
use Rattle.rules.specs.declared.Pair.{Pair}
use Rattle.rules.specs.Below.{some, first, row_of}
use Rattle.rules.specs.State.{held_in, starts, rule_of}
use Rattle.rules.specs.Verdict.{some_window, two_near, fails, first_window, first_near, place_of}
use Rattle.rules.proofs.Tests.{neither, both}
use Rattle.rules.proofs.Windows.{some-none, some-found}
use Rattle.rules.proofs.Apart.{near-window}
use Rattle.rules.proofs.Pairs.{any_same, exchange, good-pair}
use Rattle.rules.specs.Pairs.{too_few, lacking, lacking_from, first_lacking, fails8, good_pair, in_range8, any_of}

module _ (p : ℕ → Bool) where
  pub nowhere-yet : some p 0 ≡ false
  unfolding some
  nowhere-yet = refl

  pub passed : (a : ℕ) → some p a ≡ false → p a ≡ false → some p (a + 1) ≡ false
  unfolding some
  passed a e f = rw (add-one a, e, f)

  pub found : (k a : ℕ) → a < k → some p a ≡ false → p a ≡ true → first p k ≡ a
  unfolding first
  found zero a l none e = absurd (omega arith)
  found (suc k) a l none e = go (found k a) (eq-or-lt_of_le (le_of_suc-le-suc l))
    where
      go : (a < k → some p a ≡ false → p a ≡ true → first p k ≡ a) → (a ≡ k) ⊎ (a < k) → first p (suc k) ≡ a
      go ih (inl q) = rw (← q, none, e)
      go ih (inr m) = rw (some-found p k a m e) (ih m none e)

  pub nowhere : (k : ℕ) → some p k ≡ false → first p k ≡ k
  unfolding first some
  nowhere zero e = refl
  nowhere (suc k) e = let h = neither (some p k) (p k) e in rw (h.0, h.1)

  -- what is found where something is there
  pub record Found (k a : ℕ) : Type 0 where
    pub below : a < k
    pub holds : p a ≡ true
    pub lowest : some p a ≡ false

  first_found : (k : ℕ) → some p k ≡ true → Found k (first p k)
  unfolding first some
  first_found zero e = absurd (true≢false (sym e))
  first_found (suc k) e = go (some p k) (p k) refl refl (first_found k)
    where
      go : (a b : Bool) → some p k ≡ a → p k ≡ b → (some p k ≡ true → Found k (first p k)) → Found (suc k) (first p (suc k))
      go true b s q h = let f = h s in rw s (record { below = omega (arith, f.below); holds = f.holds; lowest = f.lowest })
      go false true s q h = rw (s, q) (record { below = omega arith; holds = q; lowest = s })
      go false false s q h = absurd (true≢false (sym e ∙ rw (s, q)))

  pub there-or-not : (k : ℕ) → ltb (first p k) k ≡ some p k
  there-or-not k = go (some p k) refl
    where
      go : (b : Bool) → some p k ≡ b → ltb (first p k) k ≡ b
      go true e = lt-ltb _ _ (first_found k e).below
      go false e = rw (nowhere k e) (le-ltb k k (omega arith))

-- "the lowest component at which a failing window starts": component `suc a`, of windows of `width` that fail where they hold `need` failed ones
pub record Lowest (ring : Bool) (n width need w p : ℕ) : Type 0 where
  pub a : ℕ
  pub counted : p ≡ suc a
  pub start : a < starts ring n width
  pub holds : need ≤ held_in n a w width
  pub lower : (b : ℕ) → b < a → held_in n b w width < need

module _ (ring : Bool) (n width need w : ℕ) where
  abbrev failing : ℕ → Bool
  failing a = leb need (held_in n a w width)

  pub window-lowest : some_window ring n width need w ≡ true → Lowest ring n width need w (first_window ring n width need w)
  unfolding some_window first_window
  window-lowest e =
      let f = first_found failing (starts ring n width) e in
      record {
        a = first failing (starts ring n width);
        counted = refl;
        start = f.below;
        holds = leb-true _ _ f.holds;
        lower = λ b l. lt_of_not-le (λ h. (some-none failing _).0 f.lowest b l (le-leb _ _ h));
      }

  pub lowest-window : (p : ℕ) → Lowest ring n width need w p → some_window ring n width need w ≡ true
  unfolding some_window
  lowest-window p h = some-found failing (starts ring n width) h.a h.start (le-leb _ _ h.holds)

-- kind 6: a window that fits the line
pub near_first : (n r w : ℕ) → two_near n r w ≡ true → first_window false n (min r n) 2 w ≡ first_near n r w
unfolding first_near
near_first n r w e = go (leb n r) refl
  where
    go : (b : Bool) → leb n r ≡ b → first_window false n (min r n) 2 w ≡ cond b 1 (first_window false n r 2 w)
    go true l =
        let long = leb-true n r l in
        let h = window-lowest false n (min r n) 2 w (sym (near-window n r w) ∙ e) in
        omega (arith, h.counted, h.start)
    go false l =
        let short = leb-false n r l in
        let fits : min r n ≡ r = omega arith in
        ap (λ width. first_window false n width 2 w) fits

-- the windows of a rule of kinds 4 to 7
pub record Windows : Type 0 where
  pub ring : Bool
  pub width : ℕ
  pub need : ℕ

abbrev of : (ring : Bool) (width need : ℕ) → Windows
of ring width need = record { ring = ring; width = width; need = need }

unfoldable pub windows_of : Rule → (n : ℕ) → Windows
windows_of rule n =
    let first = rule.first in
    let second = rule.second in
    let none = of false 0 0 in
    row_of rule.kind none (none ∷ none ∷ none ∷ of false first first ∷ of true first first ∷ of false (min second n) 2 ∷ of true second 2 ∷ [])

abbrev pub LowestOf : Windows → (n w p : ℕ) → Type 0
LowestOf v n w p = Lowest v.ring n v.width v.need w p

-- "fails with a place": the system fails exactly if the place is the lowest start of a failing window
module _ (n : ℕ) (weights : List ℕ) (w first second : ℕ) where
  abbrev Right : ℕ → Type 0
  Right kind =
      let rule = rule_of kind first second in
      (fails rule n weights w ≡ true) ↔ LowestOf (windows_of rule n) n w (place_of rule n weights w)

  exactly : (ring : Bool) (width need : ℕ) → (some_window ring n width need w ≡ true) ↔ Lowest ring n width need w (first_window ring n width need w)
  exactly ring width need = (window-lowest ring n width need w, lowest-window ring n width need w _)

  by_kind : (kind : ℕ) → 4 ≤ kind → kind ≤ 7 → Right kind
  unfolding fails windows_of place_of
  by_kind zero l h = absurd (omega arith)
  by_kind (suc zero) l h = absurd (omega arith)
  by_kind (suc (suc zero)) l h = absurd (omega arith)
  by_kind (suc (suc (suc zero))) l h = absurd (omega arith)
  by_kind (suc (suc (suc (suc zero)))) l h = exactly false first first
  by_kind (suc (suc (suc (suc (suc zero))))) l h = exactly true first first
  by_kind (suc (suc (suc (suc (suc (suc zero)))))) l h = (
    λ e. rw (← (near_first n second w e)) (window-lowest false n (min second n) 2 w (sym (near-window n second w) ∙ e)),
    λ h. near-window n second w ∙ lowest-window false n (min second n) 2 w _ h,
  )
  by_kind (suc (suc (suc (suc (suc (suc (suc zero))))))) l h = exactly true second 2
  by_kind (suc (suc (suc (suc (suc (suc (suc (suc kind)))))))) l h = absurd (omega arith)

pub place-lowest : (rule : Rule) (n : ℕ) (weights : List ℕ) (w : ℕ) → 4 ≤ rule.kind → rule.kind ≤ 7
    → (fails rule n weights w ≡ true) ↔ LowestOf (windows_of rule n) n w (place_of rule n weights w)
place-lowest rule n weights w = by_kind n weights w rule.first rule.second rule.kind

-- kind 8: some pair has a failing window exactly if at some start some pair has
below-start : (t : ℕ → Bool) (s n : ℕ) → s ≤ n → some (λ a. ltb a s && t a) n ≡ some t s
below-start t s n l = go (some t s) refl
  where
    go : (b : Bool) → some t s ≡ b → some (λ a. ltb a s && t a) n ≡ b
    go true e = let f = first_found t s e in some-found (λ a. ltb a s && t a) n (first t s) (omega (arith, f.below)) (rw (lt-ltb (first t s) s f.below) f.holds)
    go false e = (some-none (λ a. ltb a s && t a) n).1 (λ a m h.
        let v = both (ltb a s) (t a) h in
        (some-none t s).0 e a (ltb-true a s v.0) v.1)

pub fails-from : (n w : ℕ) (ps : List Pair) → in_range8 n ps ≡ true → fails8 ps n w ≡ some (λ a. any_of (lacking_from n w a) ps) n
unfolding fails8 in_range8
fails-from n w ps range =
    any_same (good_pair n) (lacking n w) (λ p. some (λ a. lacking_from n w a p) n)
    (λ p g. sym (below-start (λ a. too_few p (held_in n a w p.r)) (starts false n p.r) n (omega (arith, (good-pair n p g).some, (good-pair n p g).order)))) ps range
    ∙ sym (exchange (lacking_from n w) n ps)

-- "A failing verdict names the lowest start of any failing window"
pub record LowestPair (n w : ℕ) (ps : List Pair) (p : ℕ) : Type 0 where
  pub a : ℕ
  pub counted : p ≡ suc a
  pub found : Found (λ a. any_of (lacking_from n w a) ps) n a

pub pairs-lowest : (n w : ℕ) (ps : List Pair) → in_range8 n ps ≡ true → (fails8 ps n w ≡ true) ↔ LowestPair n w ps (first_lacking ps n w)
unfolding first_lacking
pairs-lowest n w ps range = (
  λ e. record { a = _; counted = refl; found = first_found _ n (sym (fails-from n w ps range) ∙ e) },
  λ h. fails-from n w ps range ∙ some-found _ n h.a h.found.below h.found.holds,
)
