-- Nothing outside a stretch is read: what a rating and a worth ask of their lists are the lengths and what stands on the stretch. So a stretch answers as a list of its
-- components alone. Assumes nothing.
use mathlib.Core.Path.{◌≡◌, refl, sym, ap, ap₂, ◌∙◌}
use mathlib.Core.Bool.{Bool, true, false, not, cond, ◌&&◌, ◌||◌}
use mathlib.Core.List.{List, [], ◌∷◌}
use Prim.Native.Nat.{ℕ, zero, suc, ◌+◌, ◌-◌, ◌≤◌, ◌<◌}
use native.Mathlib.Decide.{ℕ_discrete, dec_lt}
use native.Mathlib.Omega.{arith}
use lib.ListN.{length, get_or, set, take, drop, length-set, length-take, length-drop}
use borrow.Author.Tests.{eq-eqb, eqb-true, le-leb, ltb-true, not-false}
use lib.Seq.{take_all, ext_get_or, get_or-set_same, get_or-set_other, set_out}
use lib.Dec.{eqb, ltb}
use lib.IntN.{sub_ℕ}
use Rattle.rules.specs.declared.Worth.TheVariants.{Ends, Refused}
use Rattle.rules.specs.declared.Rating.TheVariants as rating
use Rattle.rules.specs.State.{unit_of, beside_of}
use Rattle.rules.specs.Below.{total, within}
use Rattle.rules.specs.Boards.{has_boards, boards_read, figure_behind, exact_behind}
use Rattle.rules.specs.Stretch.{stretch}
use Rattle.rules.specs.Asked.{Asked, unit_in, length_of, size_of, part_of, weights_of, read_of, boards_of, switchboards_of, board_count, rounded_of, exact_of}
use Rattle.rules.specs.Alike.{Alike, alone, Paired}
use Rattle.rules.specs.Refusal.{most, heaviest, first_of, after, bad_version, bad_kind, bad_size, bad_stretch, bad_boards, misplaced, above_unit, some_above, bad_weights, weights_out, in_range, short_table, figures_refusal}
use Rattle.rules.specs.Answer.{unless, figures_of}
use Rattle.rules.specs.Worth.{swapped, worth_of}
use Rattle.rules.proofs.Tests.{by_both}
use Rattle.rules.proofs.EachKind.{within-true}
use Rattle.rules.proofs.Accepted.{in-stretch, whole-stretch, stretch-length, stretch-get}

-- ---- what is asked of the lists

module _ (q r : Asked) (e : Alike q r) where
  pub alike-refusal : (table : List ℕ) → figures_refusal q table ≡ figures_refusal r table
  unfolding figures_refusal
  alike-refusal table =
      λ i.
      let version = e.version i in
      let n = e.as_many_fans i in
      let own = boards_read version (e.switchboards i) in
      let rated = boards_read version (e.same_boards i) in
      first_of
      ((11, bad_version version)
      ∷ (1, bad_kind (e.rule i))
      ∷ (2, bad_size n)
      ∷ (3, bad_stretch (e.a i) (e.b i) n)
      ∷ (20, bad_boards version (length own))
      ∷ (21, has_boards version && (not (eqb (e.as_many_boards i) n) || some_above (length own) rated))
      ∷ (4, above_unit (unit_of version) (e.same_fans i) own)
      ∷ (5, weights_out (e.rule i) n (e.as_many_weights i) (total (e.same_weights i)))
      ∷ (6, not (in_range (e.rule i) (suc (e.b i) - e.a i) (beside_of (e.rule i) (e.same_weights i) (e.more i))))
      ∷ (7, short_table table)
      ∷ [])

  pub alike-rounded : (up : Bool) → rounded_of up q ≡ rounded_of up r
  alike-rounded up =
      λ i.
      figure_behind up (unit_of (e.version i)) (e.rule i) (e.same_fans i) (beside_of (e.rule i) (e.same_weights i) (e.more i)) (boards_read (e.version i) (e.same_boards i))
      (boards_read (e.version i) (e.switchboards i))

  pub alike-exact : exact_of q ≡ exact_of r
  alike-exact =
      λ i.
      exact_behind (unit_of (e.version i)) (e.rule i) (e.same_fans i) (beside_of (e.rule i) (e.same_weights i) (e.more i)) (boards_read (e.version i) (e.same_boards i))
      (boards_read (e.version i) (e.switchboards i))

  pub alike-figures : (table : List ℕ) → figures_of q table ≡ figures_of r table
  unfolding figures_of
  alike-figures table = λ i. unless (alike-refusal table i) rating.Refused (rating.Range (alike-rounded false i) (alike-rounded true i))

-- ---- a worth

-- a number replaced in two lists of one length that have the same at a place
set_same : (xs ys : List ℕ) (j k p : ℕ) → length xs ≡ length ys → get_or xs k 0 ≡ get_or ys k 0 → get_or (set xs j p) k 0 ≡ get_or (set ys j p) k 0
set_same xs ys j k p long e =
    elim (ℕ_discrete k j) [
      | yes at ↦
          elim (dec_lt j (length xs)) [
            | yes l ↦ rw at (get_or-set_same xs j p 0 l ∙ sym (get_or-set_same ys j p 0 (omega arith)))
            | no g ↦ rw (set_out xs j p (omega arith), set_out ys j p (omega arith)) e
          ]
      | no other ↦ get_or-set_other xs j k p 0 other ∙ e ∙ sym (get_or-set_other ys j k p 0 other)
    ]

part_length : (a b : ℕ) (xs ys : List ℕ) → length xs ≡ length ys → length (stretch a b xs) ≡ length (stretch a b ys)
unfolding stretch
part_length a b xs ys e = simp (length-take, length-drop, e)

-- lists of one length that have the same at each place of a stretch
pub part_same : (a b : ℕ) (xs ys : List ℕ) → 1 ≤ a → length xs ≡ length ys → ((k : ℕ) → a - 1 ≤ k → k < b → get_or xs k 0 ≡ get_or ys k 0) → stretch a b xs ≡ stretch a b ys
part_same a b xs ys some long same =
    ext_get_or 0 _ _ (part_length a b xs ys long) (λ i l. stretch-get a b xs i ∙ one i ∙ sym (stretch-get a b ys i))
  where
    one : (i : ℕ) → cond (ltb i (suc b - a)) (get_or xs (a - 1 + i) 0) 0 ≡ cond (ltb i (suc b - a)) (get_or ys (a - 1 + i) 0) 0
    one i =
        by_both (λ x y. x ≡ y) (ltb i (suc b - a)) _ _ _ _ (λ e. same (a - 1 + i) (omega arith) (omega (arith, ltb-true i (suc b - a) e))) (λ e. refl)

-- so it is on a stretch that two lists share, wherever the number stands
part-set : (a b : ℕ) (xs ys : List ℕ) (j p : ℕ) → length xs ≡ length ys → stretch a b xs ≡ stretch a b ys → stretch a b (set xs j p) ≡ stretch a b (set ys j p)
part-set a b xs ys j p long e =
    ext_get_or 0 _ _ (part_length a b _ _ (length-set xs j p ∙ long ∙ sym (length-set ys j p)))
    (λ i l. stretch-get a b (set xs j p) i ∙ one i ∙ sym (stretch-get a b (set ys j p) i))
  where
    one : (i : ℕ) → cond (ltb i (suc b - a)) (get_or (set xs j p) (a - 1 + i) 0) 0 ≡ cond (ltb i (suc b - a)) (get_or (set ys j p) (a - 1 + i) 0) 0
    one i = go (ltb i (suc b - a)) (sym (stretch-get a b xs i) ∙ ap (λ zs. get_or zs i 0) e ∙ stretch-get a b ys i)
      where
        go : (t : Bool) → cond t (get_or xs (a - 1 + i) 0) 0 ≡ cond t (get_or ys (a - 1 + i) 0) 0 → cond t (get_or (set xs j p) (a - 1 + i) 0) 0 ≡ cond t (get_or (set ys j p) (a - 1 + i) 0) 0
        go true same = set_same xs ys j (a - 1 + i) p long same
        go false same = refl

module _ (q r : Asked) (e : Alike q r) (fan : ℕ) where
  pub alike-swapped : (p : ℕ) → Alike (swapped fan p q) (swapped fan p r)
  alike-swapped p = record {
    version = e.version;
    rule = e.rule;
    a = e.a;
    b = e.b;
    more = e.more;
    switchboards = e.switchboards;
    as_many_fans = length-set q.survival (fan - 1) p ∙ e.as_many_fans ∙ sym (length-set r.survival (fan - 1) p);
    as_many_weights = e.as_many_weights;
    as_many_boards = e.as_many_boards;
    same_fans = part-set q.a q.b q.survival r.survival (fan - 1) p e.as_many_fans (e.same_fans ∙ at (sym e.a) (sym e.b) r.survival) ∙ at e.a e.b (set r.survival (fan - 1) p);
    same_weights = e.same_weights;
    same_boards = e.same_boards;
  }
    where
      at : {a a' b b' : ℕ} → a ≡ a' → b ≡ b' → (xs : List ℕ) → stretch a b xs ≡ stretch a' b' xs
      at f g xs = λ i. stretch (f i) (g i) xs

  alike_end : (up : Bool) (p p' : ℕ) → p ≡ p' → rounded_of up (swapped fan p q) ≡ rounded_of up (swapped fan p' r)
  alike_end up p p' same = alike-rounded (swapped fan p q) (swapped fan p r) (alike-swapped p) up ∙ ap (λ x. rounded_of up (swapped fan x r)) same

  -- worth::worth's answer: the same refusal, and the same two ends
  pub alike-worth : (table : List ℕ) → worth_of q fan table ≡ worth_of r fan table
  unfolding worth_of
  alike-worth table =
      let unit = ap unit_of e.version in
      λ i.
      unless (after (alike-refusal q r e table i) (cond (not (within (e.a i) fan (e.b i))) 17 0)) Refused
      (Ends (sub_ℕ (alike_end false _ _ unit i) (alike_end true 0 0 refl i)) (sub_ℕ (alike_end true _ _ unit i) (alike_end false 0 0 refl i)))

-- ---- a list of the stretch's components alone

-- a stretch from 1 on is the front, and the front of a front that is as long is itself
stretch-again : (a b : ℕ) (xs : List ℕ) → stretch 1 (suc b - a) (stretch a b xs) ≡ stretch a b xs
unfolding stretch
stretch-again a b xs = let m : suc (suc b - a) - 1 ≡ suc b - a = omega arith in rw m (take_all (suc b - a) (take (suc b - a) (drop (a - 1) xs)) (omega (arith, length-take (suc b - a) (drop (a - 1) xs))))

module _ (q : Asked) where
  size-again : size_of (alone q) ≡ size_of q
  size-again = omega arith

  read_again : read_of (alone q) ≡ read_of q
  read_again = ap (λ ws. beside_of q.rule ws q.more) (stretch-again q.a q.b q.weights)

  boards-again : boards_of (alone q) ≡ boards_of q
  boards-again = ap (boards_read q.version) (stretch-again q.a q.b q.boards)

  -- "answers as a list of those components alone would, weights too": the figures and E of every stretch
  pub alone-rounded : (up : Bool) → rounded_of up (alone q) ≡ rounded_of up q
  alone-rounded up =
      λ i. figure_behind up (unit_in q) q.rule (stretch-again q.a q.b q.survival i) (read_again i) (boards-again i) (switchboards_of q)

  pub alone-exact : exact_of (alone q) ≡ exact_of q
  alone-exact = λ i. exact_behind (unit_in q) q.rule (stretch-again q.a q.b q.survival i) (read_again i) (boards-again i) (switchboards_of q)

  module _ (paired : Paired q) (two : bad_size (length_of q) ≡ false) (three : bad_stretch q.a q.b (length_of q) ≡ false) where
    inside : (1 ≤ q.a) × (q.a ≤ q.b) × (q.b ≤ length_of q)
    inside = in-stretch q.a q.b (length_of q) three

    part-long : length (part_of q) ≡ size_of q
    part-long = stretch-length q.a q.b q.survival three

    small : length_of q ≤ most
    small = (within-true 1 (length_of q) most (not-false _ two)).1

    size-good : bad_size (length (part_of q)) ≡ false
    size-good = rw part-long (ap not (ap₂ ◌&&◌ (le-leb 1 (size_of q) (omega (arith, inside))) (le-leb (size_of q) most (omega (arith, inside, small)))))

    place-good : bad_stretch 1 (size_of q) (length (part_of q)) ≡ false
    place-good = rw part-long (whole-stretch (size_of q) (omega (arith, inside)))

    -- a list as long as the deck's has as many on the stretch as the stretch is long
    eqb-part : (xs : List ℕ) → length xs ≡ length_of q → eqb (length (stretch q.a q.b xs)) (length (part_of q)) ≡ eqb (length xs) (length_of q)
    eqb-part xs e = eq-eqb _ _ (stretch-length q.a q.b xs (rw e three) ∙ sym part-long) ∙ sym (eq-eqb _ _ e)

    placed-again : misplaced q.version (length (part_of q)) (board_count q) (stretch q.a q.b q.boards) (boards_of (alone q))
        ≡ misplaced q.version (length_of q) (board_count q) q.boards (boards_of q)
    placed-again = go (has_boards q.version) refl
      where
        go : (b : Bool) → has_boards q.version ≡ b
            → (b && (not (eqb (length (stretch q.a q.b q.boards)) (length (part_of q))) || some_above (board_count q) (boards_of (alone q))))
            ≡ (b && (not (eqb (length q.boards) (length_of q)) || some_above (board_count q) (boards_of q)))
        go true e = λ i. not (eqb-part q.boards (paired.boards e) i) || some_above (board_count q) (boards-again i)
        go false e = refl

    weighed-again : bad_weights q.rule (length (part_of q)) (weights_of q) (weights_of (alone q)) ≡ bad_weights q.rule (length_of q) q.weights (weights_of q)
    unfolding weights_out
    weighed-again = go (eqb q.rule.kind 2) refl
      where
        go : (b : Bool) → eqb q.rule.kind 2 ≡ b
            → (b && (not (eqb (length (weights_of q)) (length (part_of q))) || ltb heaviest (total (weights_of (alone q)))))
            ≡ (b && (not (eqb (length q.weights) (length_of q)) || ltb heaviest (total (weights_of q))))
        go true e =
            λ i. not (eqb-part q.weights (paired.weights (eqb-true _ _ e)) i) || ltb heaviest (total (stretch-again q.a q.b q.weights i))
        go false e = refl

    -- and its refusals from 20 on
    pub alone-refusal : (table : List ℕ) → figures_refusal (alone q) table ≡ figures_refusal q table
    unfolding figures_refusal
    alone-refusal table =
        λ i.
        first_of
        ((11, bad_version q.version)
        ∷ (1, bad_kind q.rule)
        ∷ (2, (size-good ∙ sym two) i)
        ∷ (3, (place-good ∙ sym three) i)
        ∷ (20, bad_boards q.version (board_count q))
        ∷ (21, placed-again i)
        ∷ (4, above_unit (unit_in q) (stretch-again q.a q.b q.survival i) (switchboards_of q))
        ∷ (5, weighed-again i)
        ∷ (6, not (in_range q.rule (size-again i) (read_again i)))
        ∷ (7, short_table table)
        ∷ [])

    pub alone-figures : (table : List ℕ) → figures_of (alone q) table ≡ figures_of q table
    unfolding figures_of
    alone-figures table = λ i. unless (alone-refusal table i) rating.Refused (rating.Range (alone-rounded false i) (alone-rounded true i))
