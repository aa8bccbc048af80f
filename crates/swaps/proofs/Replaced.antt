-- Fans' numbers replaced in a copy of the stretch alone, which asks as the list does; and a rating on a table that another has worked in: as long as it was, so
-- refused as little. Assumes nothing.
use Prim.Native.Nat.{ℕ, ◌-◌, ◌≤◌}
use mathlib.Core.Path.{◌≡◌, refl, ap, subst, ◌∙◌}
use mathlib.Core.Bool.{true, false}
use mathlib.Core.List.{List}
use native.Mathlib.Omega.{arith}
use native.Mathlib.Nat.{le_trans}
use lib.Dec.{ltb}
use lib.IntN.{sub_ℕ}
use lib.ListN.{length, take, set}
use lib.Seq.{length-take-le, take-set-lt, set-set, get_or-take}
use mir.Syntax.{w64}
use mir.Val.{SFits}
use borrow.Author.Tests.{not-false}
use Rattle.rules.specs.State.{S}
use Rattle.rules.specs.Asked.{Asked, question_in, asked_of, unit_in, length_of}
use Rattle.rules.specs.Alike.{Alike}
use Rattle.rules.specs.Refusal.{most, cells, figures_refusal}
use Rattle.rules.specs.Worth.{swapped, bad_fan}
use Rattle.rules.specs.Gain.{swapped_both}
use Rattle.rules.proofs.Units.{unit-most}
use Rattle.rules.proofs.EachKind.{within-true}
use Rattle.rules.proofs.Accepted.{first-same, none_first, in-stretch, figures-ratable}
use Rattle.rules.proofs.Differences.{by_sign}
use Rattle.rules.proofs.Sure.{swapped-accepted}
use Rattle.rules.proofs.Gain.{figures-within}
use Rattle.rules.proofs.Alone.{part_same, alike-swapped, alike-refusal, alike-rounded}
use Rattle.places.specs.Cells.{Kept}
use Rattle.places.specs.declared.Ends.{Ends}
use Rattle.stretches.specs.Outcome.{Worked}
use Rattle.swaps.specs.declared.Swap.{Swap}
use Rattle.swaps.specs.Copied.{Copied}
use Rattle.swaps.specs.Swapping.{swap_in, Swappable}

-- what is asked of a copy: the same, with the copy's front for the list
abbrev pub among : Asked → List ℕ → Asked
among q copy = asked_of (question_in q) (take (length_of q) copy) q.weights q.more q.boards q.switchboards

module _ (q : Asked) (table : List ℕ) (none : figures_refusal q table ≡ 0) where
  -- a fan of the stretch is one of the list
  pub placed : (fan : ℕ) → bad_fan q fan ≡ false → (1 ≤ q.a) × (q.a ≤ fan) × (fan ≤ q.b) × (q.b ≤ length_of q)
  placed fan e =
      let inside = within-true q.a fan q.b (not-false _ e) in
      let h = in-stretch q.a q.b (length_of q) (figures-ratable q table none).0 in
      (h.0, inside.0, inside.1, h.2)

  pub listed : length_of q ≤ most
  unfolding figures_refusal
  listed = (within-true 1 (length_of q) most (not-false _ (none_first 1 _ _ (none_first 0 _ _ (none_first 10 _ _ none).1).1).0)).1

  -- a copy of the stretch alone asks as the list does, since nothing beside it is read
  copy-alike : (copy : List ℕ) → Copied (q.a - 1) q.b q.survival copy → Alike (among q copy) q
  copy-alike copy c =
      let n = length_of q in
      let inside = in-stretch q.a q.b n (figures-ratable q table none).0 in
      let long : length (take n copy) ≡ n = length-take-le n copy (omega (arith, listed, c.long)) in
      record {
        version = refl;
        rule = refl;
        a = refl;
        b = refl;
        more = refl;
        switchboards = refl;
        as_many_fans = long;
        as_many_weights = refl;
        as_many_boards = refl;
        same_fans =
            part_same q.a q.b (take n copy) q.survival inside.0 long
            (λ k from upto. get_or-take n copy k 0 (omega (arith, inside, upto)) ∙ c.same k from upto);
        same_weights = refl;
        same_boards = refl;
      }

  pub kept-accepted : (later : List ℕ) → Kept table later → figures_refusal q later ≡ 0
  unfolding figures_refusal
  kept-accepted later k =
      first-same 11 _ _ _ _ refl (λ eleven. first-same 1 _ _ _ _ refl (λ one. first-same 2 _ _ _ _ refl (λ two. first-same 3 _ _ _ _ refl (λ three.
      first-same 20 _ _ _ _ refl (λ twenty. first-same 21 _ _ _ _ refl (λ placed. first-same 4 _ _ _ _ refl (λ four.
      first-same 5 _ _ _ _ refl (λ five. first-same 6 _ _ _ _ refl (λ six. first-same 7 _ _ _ _ (ap (λ n. ltb n cells) k.long) (λ seven. refl))))))))))
      ∙ none

  pub room : cells ≤ length table
  room = (figures-ratable q table none).2.room

-- ---- a copy of the stretch, its fans' numbers replaced, is rated as the list so replaced

module _ (q : Asked) (w : Swap) (table : List ℕ) (h : Swappable q w table) (copy : List ℕ) (is : Copied (q.a - 1) q.b q.survival copy) where
  abbrev first : ℕ
  first = w.first - 1

  abbrev second : ℕ
  second = w.second - 1

  abbrev written : List ℕ
  written = set (set copy first w.p) second w.p

  replaced : Alike (among q written) (swap_in w q)
  replaced =
      let n = length_of q in
      let one = placed q table h.none w.first h.first in
      let two = placed q table h.none w.second h.second in
      rw (take-set-lt n (set copy first w.p) second w.p (omega (arith, two)), take-set-lt n copy first w.p (omega (arith, one)))
      (alike-swapped _ _ (alike-swapped _ _ (copy-alike q table h.none copy is) w.first w.p) w.second w.p)

  pub written-accepted : figures_refusal (among q written) table ≡ 0
  written-accepted =
      alike-refusal _ _ replaced table
      ∙ swapped-accepted (swapped w.first w.p q) table w.second w.p (swapped-accepted q table w.first w.p h.none h.small) h.small

  pub written-worked : {t : List ℕ} {r : Ends} → Worked (among q written) table t r → Worked (swap_in w q) table t r
  written-worked k = record { low = k.low ∙ alike-rounded _ _ replaced false; high = k.high ∙ alike-rounded _ _ replaced true; kept = k.kept }

-- ---- what is worked is within the unit, and the same fan swapped twice is swapped once

pub within-most : (q : Asked) {x : ℕ} → x ≤ unit_in q → x ≤ S
within-most q l = le_trans l (unit-most q.version)

pub rated-within : (q : Asked) (table : List ℕ) → figures_refusal q table ≡ 0 → {t₀ t : List ℕ} {r : Ends} → Worked q t₀ t r → (r.low ≤ S) × (r.high ≤ S)
rated-within q table none w =
    (rw w.low (within-most q (figures-within q table none false)), rw w.high (within-most q (figures-within q table none true)))

pub once : (fan p : ℕ) (q : Asked) → swapped_both fan fan p q ≡ swapped fan p q
once fan p q = ap (λ xs. asked_of (question_in q) xs q.weights q.more q.boards q.switchboards) (set-set q.survival (fan - 1) p p)

pub worked-once : (fan p : ℕ) (q : Asked) {t₀ t : List ℕ} {r : Ends} → Worked (swapped_both fan fan p q) t₀ t r → Worked (swapped fan p q) t₀ t r
worked-once fan p q {t₀} {t} {r} w = subst (λ x. Worked x t₀ t r) (once fan p q) w

-- the difference of two figures is a signed number of 64 bits
pub less-fits : (a b : ℕ) → a ≤ S → b ≤ S → SFits w64 (sub_ℕ a b)
less-fits a b h k = by_sign (SFits w64) a b (λ l. record { sfits = omega arith }) (λ l. record { sfits = omega arith })
