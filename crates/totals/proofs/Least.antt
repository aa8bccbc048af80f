-- The smallest low: over both units a low is so many parts of 2^30 * 10^9 (`key`), and a fraction is below another exactly if its parts are fewer. A list's
-- smallest has fewer parts than all before it and no more than any behind it; one more at the end takes its place only if it has fewer. Assumes nothing.
use mathlib.Core.Path.{◌≡◌, refl, sym, ap, ◌∙◌}
use mathlib.Core.Bool.{Bool, true, false, cond, not, ◌||◌}
use mathlib.Core.List.{List, [], ◌∷◌, ◌++◌, append_assoc}
use Prim.Native.Nat.{ℕ, suc, ◌*◌, ◌≤◌, ◌<◌}
use native.Mathlib.Decide.{dec_le}
use native.Mathlib.Omega.{arith}
use lib.Dec.{ltb, eqb}
use borrow.Author.Tests.{lt-ltb, le-ltb, ltb-true, ltb-false, ne_eqb}
use Rattle.rules.specs.State.{S, decimal, unit_of}
use Rattle.rules.proofs.Units.{unit-some}
use Rattle.totals.specs.declared.tally.Lowest.{Lowest}
use Rattle.totals.specs.Season.{Single, chosen, some_of, of_first, low_in, unit_in, lower, smallest, lowest_of}
use Rattle.totals.specs.Plus.{lowest_plus}
use Rattle.totals.proofs.Chosen.{chosen-append}

-- a low in parts of 2^30 * 10^9
abbrev key : Single → ℕ
key x = low_in x.answer * cond (eqb x.version 1) decimal S

same_test : (a b c d : ℕ) → (a < b → c < d) → (c < d → a < b) → ltb a b ≡ ltb c d
same_test a b c d to from = go (ltb a b) refl
  where
    go : (t : Bool) → ltb a b ≡ t → t ≡ ltb c d
    go true e = sym (lt-ltb c d (to (ltb-true a b e)))
    go false e = go₂ (ltb c d) refl
      where
        go₂ : (t : Bool) → ltb c d ≡ t → false ≡ t
        go₂ true e₂ = absurd (omega (arith, from (ltb-true c d e₂), ltb-false a b e))
        go₂ false e₂ = refl

lower-key : (x y : Single) → lower x y ≡ ltb (key x) (key y)
unfolding unit_of
lower-key x y = go (low_in x.answer) (low_in y.answer) (eqb x.version 1) (eqb y.version 1)
  where
    go : (l m : ℕ) (a b : Bool) → ltb (l * cond b S decimal) (m * cond a S decimal) ≡ ltb (l * cond a decimal S) (m * cond b decimal S)
    go l m true true = same_test (l * S) (m * S) (l * decimal) (m * decimal) (λ h. omega arith) (λ h. omega arith)
    go l m true false = refl
    go l m false true = refl
    go l m false false = same_test (l * decimal) (m * decimal) (l * S) (m * S) (λ h. omega arith) (λ h. omega arith)

-- every one of a list has at least so many parts
unfoldable AtLeast : ℕ → List Single → Type 0
AtLeast k [] = Unit {0}
AtLeast k (x ∷ xs) = (k ≤ key x) × AtLeast k xs

least-fewer : (j k : ℕ) (xs : List Single) → j ≤ k → AtLeast k xs → AtLeast j xs
unfolding AtLeast
least-fewer j k [] h l = tt
least-fewer j k (x ∷ xs) h l = (omega (arith, l.0), least-fewer j k xs h l.1)

least-append : (k : ℕ) (xs ys : List Single) → AtLeast k xs → AtLeast k ys → AtLeast k (xs ++ ys)
unfolding AtLeast
least-append k [] ys l m = m
least-append k (x ∷ xs) ys l m = (l.0, least-append k xs ys l.1 m)

-- the smallest of a list, the first of those that tie
record Least (xs : List Single) (b : Single) : Type 0 where
  before : List Single
  behind : List Single
  split : xs ≡ before ++ b ∷ behind
  above : AtLeast (suc (key b)) before
  least : AtLeast (key b) behind

module _ {xs : List Single} {b : Single} (is : Least xs b) where
  all-least : AtLeast (key b) xs
  unfolding AtLeast
  all-least =
      rw is.split
      (least-append (key b) is.before (b ∷ is.behind) (least-fewer (key b) (suc (key b)) is.before (omega arith) is.above) (omega arith, is.least))

  -- one more: it has fewer, or not
  more-lower : (x : Single) → key x < key b → Least (xs ++ x ∷ []) x
  unfolding AtLeast
  more-lower x h = record { before = xs; behind = []; split = refl; above = least-fewer (suc (key x)) (key b) xs h all-least; least = tt }

  more_same : (x : Single) → key b ≤ key x → Least (xs ++ x ∷ []) b
  unfolding AtLeast
  more_same x h = record {
    before = is.before;
    behind = is.behind ++ x ∷ [];
    split = ap (λ ys. ys ++ x ∷ []) is.split ∙ append_assoc is.before (b ∷ is.behind) (x ∷ []);
    above = is.above;
    least = least-append (key b) is.behind (x ∷ []) is.least (h, tt);
  }

-- every list that is not empty has one
record Found (xs : List Single) : Type 0 where
  b : Single
  is : Least xs b

found : (x : Single) (xs : List Single) → Found (x ∷ xs)
unfolding AtLeast
found x [] = record { b = x; is = record { before = []; behind = []; split = refl; above = tt; least = tt } }
found x (y ∷ ys) =
    let f = found y ys in
    elim (dec_le (key x) (key f.b)) [
      | yes l ↦
          record { b = x; is = record { before = []; behind = y ∷ ys; split = refl; above = tt; least = least-fewer (key x) (key f.b) (y ∷ ys) l (all-least f.is) } }
      | no g ↦
          record {
            b = f.b;
            is = record {
              before = x ∷ f.is.before;
              behind = f.is.behind;
              split = ap (λ zs. x ∷ zs) f.is.split;
              above = (omega arith, f.is.above);
              least = f.is.least;
            };
          }
    ]

-- tests over a list
some_in : (test : Single → Bool) (xs : List Single) (b : Single) (ys : List Single) → test b ≡ true → some_of test (xs ++ b ∷ ys) ≡ true
unfolding some_of
some_in test [] b ys e = rw e
some_in test (x ∷ xs) b ys e = rw (some_in test xs b ys e) (either (test x))
  where
    either : (t : Bool) → t || true ≡ true
    either true = refl
    either false = refl

none-lower : (k : ℕ) (b : Single) (xs : List Single) → key b ≡ k → AtLeast k xs → some_of (λ y. lower y b) xs ≡ false
unfolding AtLeast some_of
none-lower k b [] e l = refl
none-lower k b (x ∷ xs) e l = rw (lower-key x b ∙ le-ltb (key x) (key b) (omega (arith, l.0)), none-lower k b xs e l.1)

none-chosen : (test : Single → Bool) (k : ℕ) (xs : List Single) → ((x : Single) → k ≤ key x → test x ≡ false) → AtLeast k xs → chosen test xs ≡ []
unfolding AtLeast chosen
none-chosen test k [] h l = refl
none-chosen test k (x ∷ xs) h l = rw (h x l.0, none-chosen test k xs h l.1)

-- an answer as the totals show it
abbrev pub lowest_from : Single → Lowest
lowest_from x = record { low = low_in x.answer; unit = unit_in x; deck = x.deck; system = x.system }

-- it is the first of the smallest
least_first : {xs : List Single} {b : Single} → Least xs b → lowest_of xs ≡ lowest_from b
unfolding chosen
least_first {xs} {b} is =
    let first = shown in
    λ i. record {
      low = of_first (λ x. low_in x.answer) (first i);
      unit = of_first unit_in (first i);
      deck = of_first (λ x. x.deck) (first i);
      system = of_first (λ x. x.system) (first i);
    }
  where
    test : Single → Bool
    test x = not (some_of (λ y. lower y x) xs)

    passes : test b ≡ true
    passes = ap not (none-lower (key b) b xs refl (all-least is))

    fail : (x : Single) → suc (key b) ≤ key x → test x ≡ false
    fail x h =
        let there : some_of (λ y. lower y x) (is.before ++ b ∷ is.behind) ≡ true = some_in (λ y. lower y x) is.before b is.behind (lower-key b x ∙ lt-ltb (key b) (key x) h) in
        ap (λ ys. not (some_of (λ y. lower y x) ys)) is.split ∙ ap not there

    taken : chosen test (b ∷ is.behind) ≡ b ∷ chosen test is.behind
    taken = rw passes

    shown : smallest xs ≡ b ∷ chosen test is.behind
    shown =
        ap (chosen test) is.split
        ∙ chosen-append test is.before (b ∷ is.behind)
        ∙ ap (λ ys. ys ++ chosen test (b ∷ is.behind)) (none-chosen test (suc (key b)) is.before fail is.above)
        ∙ taken

-- one answer more
pub lowest-plus : (xs : List Single) (x : Single) → lowest_plus (lowest_of xs) (lowest_from x) ≡ lowest_of (xs ++ x ∷ [])
unfolding chosen found
lowest-plus [] x = sym (least_first (found x []).is)
lowest-plus (y ∷ ys) x =
    let f = found y ys in
    let b = f.b in
    ap (λ t. lowest_plus t (lowest_from x)) (least_first f.is)
    ∙ ap (λ t. cond (t || lower x b) (lowest_from x) (lowest_from b)) (ne_eqb (unit_in b) 0 (λ e. omega (arith, unit-some b.version, e)))
    ∙ go f (lower x b) refl
  where
    go : (f : Found (y ∷ ys)) (t : Bool) → lower x f.b ≡ t → cond t (lowest_from x) (lowest_from f.b) ≡ lowest_of ((y ∷ ys) ++ x ∷ [])
    go f true e = sym (least_first (more-lower f.is x (ltb-true (key x) (key f.b) (sym (lower-key x f.b) ∙ e))))
    go f false e = sym (least_first (more_same f.is x (ltb-false (key x) (key f.b) (sym (lower-key x f.b) ∙ e))))
