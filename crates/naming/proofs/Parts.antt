-- A word from one comma to the next: its parts are the bytes up to the first comma and the parts of what stands behind it. Assumes nothing.
use mathlib.Core.Path.{◌≡◌, refl, sym, ap, ◌∙◌}
use mathlib.Core.Bool.{Bool, true, false, cond}
use mathlib.Core.List.{List, [], ◌∷◌, ◌++◌, append_assoc, append-nil}
use Prim.Native.Nat.{ℕ, suc, ◌+◌, ◌-◌, ◌≤◌, ◌<◌}
use native.Mathlib.Omega.{arith}
use lib.Dec.{eqb, ltb}
use lib.ListN.{length, take, drop, length-drop}
use lib.Seq.{drop-drop}
use borrow.Author.Tests.{lt-ltb, le-ltb, ltb-true, ltb-false}
use Rattle.rules.specs.Below.{within}
use Rattle.states.specs.States.{fan_failed}
use Rattle.naming.specs.declared.Named.{Named}
use Rattle.naming.specs.Named.{comma, up_to, first_in, last_in, many_failed, range_failed, fits, fails, part_named, parts_on, parts_of, named_next, named_all}

-- the parts that are left from a place on; none behind the end
abbrev pub left : (word : List ℕ) (at : ℕ) → List (List ℕ)
left word at = cond (ltb (length word) at) [] (parts_of (drop at word))

-- two tests that say the same
same-less : (a b c d : ℕ) → (a < b → c < d) → (b ≤ a → d ≤ c) → ltb a b ≡ ltb c d
same-less a b c d f g = go (ltb a b) refl
  where
    go : (t : Bool) → ltb a b ≡ t → t ≡ ltb c d
    go true e = sym (lt-ltb c d (f (ltb-true a b e)))
    go false e = sym (le-ltb c d (g (ltb-false a b e)))

one_byte : (so_far : List ℕ) (b : ℕ) (word : List ℕ) (t : Bool)
    → parts_on (so_far ++ (b ∷ [])) word ≡ ((so_far ++ (b ∷ [])) ++ take (up_to comma word) word) ∷ left word (suc (up_to comma word))
    → cond t (so_far ∷ parts_on [] word) (parts_on (so_far ++ (b ∷ [])) word)
    ≡ (so_far ++ take (cond t 0 (suc (up_to comma word))) (b ∷ word)) ∷ left (b ∷ word) (suc (cond t 0 (suc (up_to comma word))))
one_byte so_far b word true on =
    ap (λ x. x ∷ parts_on [] word) (sym (append-nil so_far))
    ∙ ap (λ t. (so_far ++ []) ∷ cond t [] (parts_of word)) (sym (le-ltb (suc (length word)) 1 (omega arith)))
one_byte so_far b word false on =
    on
    ∙ ap (λ x. x ∷ left word (suc (up_to comma word))) (append_assoc so_far (b ∷ []) (take (up_to comma word) word))
    ∙ ap (λ t. (so_far ++ b ∷ take (up_to comma word) word) ∷ cond t [] (parts_of (drop (suc (up_to comma word)) word))) (same-less (length word) (suc (up_to comma word)) (suc (length word)) (suc (suc (up_to comma word))) (λ l. omega (arith, l)) (λ l. omega (arith, l)))

-- the first part, and what follows its comma
split : (so_far word : List ℕ) → parts_on so_far word ≡ (so_far ++ take (up_to comma word) word) ∷ left word (suc (up_to comma word))
unfolding parts_on up_to
split so_far [] = ap (λ x. x ∷ []) (sym (append-nil so_far))
split so_far (b ∷ word) = one_byte so_far b word (eqb b comma) (split (so_far ++ (b ∷ [])) word)

-- fans failed one after another
pub none-failed : (state from : ℕ) → many_failed state from (from - from) ≡ state
unfolding many_failed
none-failed state from = ap (many_failed state from) (let z : from - from ≡ 0 = omega arith in z)

pub one-failed : (state from fan : ℕ) → from ≤ fan → fan_failed (many_failed state from (fan - from)) fan ≡ many_failed state from (fan + 1 - from)
unfolding many_failed
one-failed state from fan l =
    let up : fan + 1 - from ≡ suc (fan - from) = omega arith in
    let here : from + (fan - from) ≡ fan = omega arith in
    ap (fan_failed (many_failed state from (fan - from))) (sym here) ∙ ap (many_failed state from) (sym up)

-- a part, by its two tests
module _ (n : ℕ) (part : List ℕ) (state : ℕ) where
  pub no-first : within 1 (first_in part) n ≡ false → part_named n part state ≡ fails state
  unfolding part_named
  no-first e = rw e

  pub no_last : within 1 (first_in part) n ≡ true → within (first_in part) (last_in part) n ≡ false → part_named n part state ≡ fails state
  unfolding part_named
  no_last e f = rw (e, f)

  pub both-named : within 1 (first_in part) n ≡ true → within (first_in part) (last_in part) n ≡ true → part_named n part state ≡ fits (range_failed state (first_in part) (last_in part))
  unfolding part_named
  both-named e f = rw (e, f)

-- nothing was passed yet
pub whole-left : (n : ℕ) (word : List ℕ) (s : Named) → named_all n (left word 0) s ≡ named_all n (parts_of word) s
whole-left n word s = ap (λ t. named_all n (cond t [] (parts_of word)) s) (le-ltb (length word) 0 (omega arith))

-- the turn of a loop from comma to comma
module _ (n : ℕ) (word : List ℕ) (at : ℕ) (low : at ≤ length word) (s : Named) where
  abbrev size : ℕ
  size = up_to comma (drop at word)

  pub part-named : named_all n (left word at) s ≡ named_all n (left word (at + suc size)) (named_next n (take size (drop at word)) s)
  unfolding named_all
  part-named =
      ap (λ t. named_all n (cond t [] (parts_of (drop at word))) s) (le-ltb (length word) at low)
      ∙ ap (λ x. named_all n x s) (split [] (drop at word))
      ∙ ap (λ x. named_all n x (named_next n (take size (drop at word)) s)) further
    where
      further : left (drop at word) (suc size) ≡ left word (at + suc size)
      further =
          let long = length-drop at word in
          ap (λ t. cond t [] (parts_of (drop (suc size) (drop at word)))) (same-less (length (drop at word)) (suc size) (length word) (at + suc size) (λ l. omega (arith, l, long, low)) (λ l. omega (arith, l, long, low)))
          ∙ ap (λ x. cond (ltb (length word) (at + suc size)) [] (parts_of x)) (drop-drop (suc size) at word)

pub all_named : (n : ℕ) (word : List ℕ) (at : ℕ) (s : Named) → length word < at → named_all n (left word at) s ≡ s
unfolding named_all
all_named n word at s l = ap (λ t. named_all n (cond t [] (parts_of (drop at word))) s) (lt-ltb (length word) at l)
