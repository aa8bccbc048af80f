-- What an answer that is no refusal tells: every condition of the call's list failed, so the rule is accepted, and the figures are those of the
-- definitions, so the third condition holds of them. Assumes nothing.
use mathlib.Core.Path.{◌≡◌, refl, ◌∙◌}
use mathlib.Core.Bool.{Bool, true, false, cond, not, ◌&&◌, ◌||◌, false≢true}
use mathlib.Core.List.{List, [], ◌∷◌}
use Prim.Native.Nat.{ℕ, zero, suc, ◌+◌, ◌-◌, ◌≤◌}
use native.Mathlib.Omega.{arith}
use lib.Dec.{eqb, ltb}
use lib.ListN.{length, get_or, take, drop, length-take, length-drop, get_or-eq_default}
use lib.Seq.{take_all, get_or-take, get_or-drop}
use borrow.Author.Tests.{eqb-true, eqb-false, eq-eqb, ne_eqb, ltb-true, ltb-false, not-false, le-ltb, le-leb}
use Rattle.rules.specs.declared.Rule.{Rule}
use Rattle.rules.specs.declared.Rating.{Rating}
use Rattle.rules.specs.declared.Rating.TheVariants.{Range, Refused}
use Rattle.rules.specs.Below.{total, within}
use Rattle.rules.specs.State.{beside_of}
use Rattle.rules.specs.Boards.{has_boards, boards_read}
use Rattle.rules.specs.Stretch.{stretch}
use Rattle.rules.specs.Asked.{Asked, unit_in, length_of, size_of, part_of, weights_of, read_of, boards_of, switchboards_of, low_of, high_of, ThirdOf}
use Rattle.rules.specs.Refusal.{last_kind, most, most_boards, bad_boards, misplaced, some_above, bad_kind, bad_size, bad_stretch, heaviest, weights_out, bad_weights, range_one, range_two, range_pairs, ranged, in_range, first_of, after, figures_refusal}
use Rattle.rules.specs.Accepted.{Accepted, One, Two, Boarded, Ratable}
use Rattle.rules.specs.Answer.{unless, figures_of}
use Rattle.rules.proofs.Tests.{by-test, both, neither}
use Rattle.rules.proofs.EachKind.{within-true}
use Rattle.rules.proofs.Units.{unit-some}
use Rattle.rules.proofs.Conditions.{none_above}
use Rattle.rules.proofs.Boards.{third-boards}

-- no refusal: the first condition fails, and so do those after it
pub none_first : (n : ℕ) (b : Bool) (cs : List (ℕ × Bool)) → first_of ((suc n, b) ∷ cs) ≡ 0 → (b ≡ false) × (first_of cs ≡ 0)
unfolding first_of
none_first n true cs e = absurd (omega arith)
none_first n false cs e = (refl, e)

pub first-of : (n : ℕ) (b : Bool) (cs : List (ℕ × Bool)) → b ≡ true → first_of ((n, b) ∷ cs) ≡ n
unfolding first_of
first-of n b cs e = rw e

pub first-after : (n : ℕ) (b : Bool) (cs : List (ℕ × Bool)) → b ≡ false → first_of ((n, b) ∷ cs) ≡ first_of cs
unfolding first_of
first-after n b cs e = rw e

-- the first conditions of a list by themselves, then those after them
pub first_more : (n : ℕ) (b : Bool) (cs ds : List (ℕ × Bool)) (next : ℕ) → first_of ds ≡ after (first_of cs) next → first_of ((suc n, b) ∷ ds) ≡ after (first_of ((suc n, b) ∷ cs)) next
unfolding first_of after
first_more n true cs ds next h = refl
first_more n false cs ds next h = h

pub first_rest : (ds : List (ℕ × Bool)) → first_of ds ≡ after (first_of []) (first_of ds)
unfolding first_of after
first_rest ds = refl

-- a refusal of a list of conditions is 0 or one of the list's numbers
pub first-le : {most : ℕ} (n : ℕ) (b : Bool) (cs : List (ℕ × Bool)) → n ≤ most → first_of cs ≤ most → first_of ((n, b) ∷ cs) ≤ most
unfolding first_of
first-le n true cs h l = h
first-le n false cs h l = l

pub first-none : (most : ℕ) → first_of [] ≤ most
unfolding first_of
first-none most = omega arith

-- an answer that is a range is no refusal, and is the definitions' range
pub answered : (r low high : ℕ) (answer : Rating) → unless r Refused answer ≡ Range low high → (r ≡ 0) × (answer ≡ Range low high)
unfolding unless
answered zero low high answer e = (refl, e)
answered (suc r) low high answer e = let z : ◌≡◌ {A = ℕ} 0 1 = cc in absurd (omega arith)

pub first-same : (n : ℕ) (b c : Bool) (cs ds : List (ℕ × Bool)) → b ≡ c → (b ≡ false → first_of cs ≡ first_of ds) → first_of ((n, b) ∷ cs) ≡ first_of ((n, c) ∷ ds)
unfolding first_of
first-same n true c cs ds e h = rw (← e)
first-same n false c cs ds e h = rw (← e) (h refl)

-- refusal 5 not given: the weights are as many as the components, and light enough
pub weights-accepted : (rule : Rule) (n listed t : ℕ) → weights_out rule n listed t ≡ false → rule.kind ≡ 2 → (listed ≡ n) × (t ≤ heaviest)
unfolding weights_out
weights-accepted rule n listed t e two =
    let h = neither (not (eqb listed n)) (ltb heaviest t) (rw (eq-eqb rule.kind 2 two) at e) in
    (eqb-true listed n (not-false _ h.0), ltb-false heaviest t h.1)

-- kind 2 reads the weights
pub beside-weights : (rule : Rule) (weights more : List ℕ) → (rule.kind ≡ 8 → ⊥) → beside_of rule weights more ≡ weights
beside-weights rule weights more h = rw (ne_eqb rule.kind 8 h)

pub two-beside : (rule : Rule) (weights more : List ℕ) → rule.kind ≡ 2 → beside_of rule weights more ≡ weights
two-beside rule weights more e = beside-weights rule weights more (λ eight. omega arith)

-- kind 8 reads the further pairs
pub beside-more : (rule : Rule) (weights more : List ℕ) → rule.kind ≡ 8 → beside_of rule weights more ≡ more
beside-more rule weights more e = rw (eq-eqb rule.kind 8 e)

-- a rule that none of 1, 2, 5 and 6 meets; in a stretch 5 is asked of the whole list
pub rule-accepted : (rule : Rule) (n whole : ℕ) (weights rated more : List ℕ) → bad_kind rule ≡ false → bad_size n ≡ false → bad_weights rule whole weights rated ≡ false
    → (length weights ≡ whole → length rated ≡ n) → not (in_range rule n (beside_of rule rated more)) ≡ false → Accepted rule n (beside_of rule rated more)
rule-accepted rule n whole weights rated more kind size listed as_many range =
    let k = within-true 1 rule.kind last_kind (not-false _ kind) in
    let s = within-true 1 n 64 (not-false _ size) in
    record {
      kind_low = k.0;
      kind_high = k.1;
      size_low = s.0;
      size_high = s.1;
      weights_length = λ two. rw (two-beside rule rated more two) (as_many (weights-accepted rule whole (length weights) (total rated) listed two).0);
      weights_total = λ two. rw (two-beside rule rated more two) (weights-accepted rule whole (length weights) (total rated) listed two).1;
      in-range = not-false _ range;
    }

one-true : (k most second : ℕ) → range_one k most second ≡ true → One k most second
one-true k most second e =
    let h = both (within 1 k most) (eqb second 0) e in
    let i = within-true 1 k most h.0 in
    record { low = i.0; high = i.1; none = eqb-true second 0 h.1 }

two-true : (first r most : ℕ) → range_two first r most ≡ true → Two first r most
two-true first r most e =
    let h = both (eqb first 2) (within 2 r most) e in
    let i = within-true 2 r most h.1 in
    record { two = eqb-true first 2 h.0; low = i.0; high = i.1 }

-- the column "range", kind by kind
module _ {rule : Rule} {n : ℕ} {weights : List ℕ} (ok : Accepted rule n weights) where
  pub range1 : rule.kind ≡ 1 → One rule.first n rule.second
  unfolding ranged
  range1 e = one-true _ _ _ (rw e at ok.in-range)

  pub range2 : rule.kind ≡ 2 → One rule.first (total weights) rule.second
  unfolding ranged
  range2 e = one-true _ _ _ (rw e at ok.in-range)

  pub range4 : rule.kind ≡ 4 → One rule.first n rule.second
  unfolding ranged
  range4 e = one-true _ _ _ (rw e at ok.in-range)

  pub range5 : rule.kind ≡ 5 → One rule.first n rule.second
  unfolding ranged
  range5 e = one-true _ _ _ (rw e at ok.in-range)

  pub range6 : rule.kind ≡ 6 → Two rule.first rule.second most
  unfolding ranged
  range6 e = two-true _ _ _ (rw e at ok.in-range)

  pub range7 : rule.kind ≡ 7 → Two rule.first rule.second n
  unfolding ranged
  range7 e = two-true _ _ _ (rw e at ok.in-range)

  pub range8 : rule.kind ≡ 8 → range_pairs rule.first rule.second n weights ≡ true
  unfolding ranged
  range8 e = rw e at ok.in-range

-- what it says that a stretch is not refused
pub in-stretch : (a b n : ℕ) → bad_stretch a b n ≡ false → (1 ≤ a) × (a ≤ b) × (b ≤ n)
in-stretch a b n e =
    let h = neither _ (ltb n b) e in
    let g = neither (eqb a 0) (ltb b a) h.0 in
    (one-le a (eqb-false _ _ g.0), ltb-false _ _ g.1, ltb-false _ _ h.1)
  where
    one-le : (a : ℕ) → (a ≡ 0 → ⊥) → 1 ≤ a
    one-le zero h = absurd (h refl)
    one-le (suc a) h = omega arith

pub whole-stretch : (n : ℕ) → 1 ≤ n → bad_stretch 1 n n ≡ false
whole-stretch n l = rw (le-ltb n 1 l, le-ltb n n (omega arith))

-- the length of a stretch that lies in the list
pub stretch-length : (a b : ℕ) (xs : List ℕ) → bad_stretch a b (length xs) ≡ false → length (stretch a b xs) ≡ suc b - a
unfolding stretch
stretch-length a b xs e =
    let h = in-stretch a b (length xs) e in
    simp (length-take, length-drop) (omega arith)

-- what stands in a stretch
pub stretch-get : (a b : ℕ) (xs : List ℕ) (i : ℕ) → get_or (stretch a b xs) i 0 ≡ cond (ltb i (suc b - a)) (get_or xs (a - 1 + i) 0) 0
unfolding stretch
stretch-get a b xs i =
    let m = suc b - a in
    let rest = drop (a - 1) xs in
    by-test (λ x. get_or (take m rest) i 0 ≡ x) (ltb i m) _ _
    (λ l. get_or-take m rest i 0 (ltb-true i m l) ∙ get_or-drop (a - 1) xs i 0)
    (λ l. get_or-eq_default (take m rest) 0 {n = i} (omega (arith, ltb-false i m l, length-take m rest)))

-- 20, 21 and 4 not given: as many board numbers as fans, and boards that can be combined. A version without boards has none.
pub boards-accepted : (version u n : ℕ) (listed boards switchboards : List ℕ) → bad_boards version (length (boards_read version switchboards)) ≡ false
    → misplaced version n (length (boards_read version switchboards)) listed (boards_read version boards) ≡ false → some_above u (boards_read version switchboards) ≡ false
    → (has_boards version ≡ true → length listed ≡ n) × Boarded u (boards_read version boards) (boards_read version switchboards)
boards-accepted version u n listed boards switchboards = go (has_boards version)
  where
    go : (b : Bool) → b && not (within 1 (length (cond b switchboards [])) most_boards) ≡ false
        → b && (not (eqb (length listed) n) || some_above (length (cond b switchboards [])) (cond b boards [])) ≡ false → some_above u (cond b switchboards []) ≡ false
        → (b ≡ true → length listed ≡ n) × Boarded u (cond b boards []) (cond b switchboards [])
    go true count list units =
        let h = neither (not (eqb (length listed) n)) _ list in (
          λ e. eqb-true (length listed) n (not-false _ h.0),
          record {
            few = (within-true 1 (length switchboards) most_boards (not-false _ count)).1;
            units = none_above u switchboards units;
            placed = none_above (length switchboards) boards h.1;
          },
        )
    go false count list units = (λ e. absurd (false≢true e), record { few = omega arith; units = λ i. omega arith; placed = λ i. omega arith })

-- no refusal, so the stretch can be rated
module _ (q : Asked) (table : List ℕ) where
  pub figures-ratable : figures_refusal q table ≡ 0
      → (bad_stretch q.a q.b (length_of q) ≡ false) × (q.rule.kind ≡ 2 → length q.weights ≡ length_of q) × Ratable (unit_in q) q.rule (part_of q) (read_of q) table
  unfolding figures_refusal
  figures-ratable e =
      let i = none_first 10 _ _ e in
      let v = none_first 0 _ _ i.1 in
      let w = none_first 1 _ _ v.1 in
      let t = none_first 2 _ _ w.1 in
      let g = none_first 19 _ _ t.1 in
      let p = none_first 20 _ _ g.1 in
      let c = none_first 3 _ _ p.1 in
      let d = none_first 4 _ _ c.1 in
      let f = none_first 5 _ _ d.1 in
      let n = length_of q in
      let small = within-true 1 n 64 (not-false _ w.0) in
      let inside = in-stretch q.a q.b n t.0 in
      let size = stretch-length q.a q.b q.survival t.0 in
      let in_size : bad_size (size_of q) ≡ false = rw (le-leb 1 (size_of q) (omega arith), le-leb (size_of q) 64 (omega arith)) in
      let as_many : length q.weights ≡ n → length (weights_of q) ≡ size_of q = λ l. stretch-length q.a q.b q.weights (rw l t.0) in (
        t.0,
        λ two. (weights-accepted q.rule n (length q.weights) _ d.0 two).0,
        record {
          accepted = rw size (rule-accepted q.rule (size_of q) n q.weights _ q.more v.0 in_size d.0 as_many f.0);
          units = none_above (unit_in q) (part_of q) (neither _ _ c.0).0;
          room = ltb-false _ _ (none_first 6 _ _ f.1).0;
        },
      )

  -- and its boards can be combined
  pub figures-boarded : figures_refusal q table ≡ 0
      → (has_boards q.version ≡ true → length q.boards ≡ length_of q) × Boarded (unit_in q) (boards_of q) (switchboards_of q)
  unfolding figures_refusal
  figures-boarded e =
      let t = none_first 2 _ _ (none_first 1 _ _ (none_first 0 _ _ (none_first 10 _ _ e).1).1).1 in
      let g = none_first 19 _ _ t.1 in
      let p = none_first 20 _ _ g.1 in
      let c = none_first 3 _ _ p.1 in
      boards-accepted q.version (unit_in q) (length_of q) q.boards (stretch q.a q.b q.boards) q.switchboards g.0 p.0
      (neither (some_above (unit_in q) (part_of q)) _ c.0).1

  -- the third condition of every range that the figures answer, n the stretch's length
  pub figures-third : (l h : ℕ) → figures_of q table ≡ Range l h → ThirdOf q l h
  unfolding figures_of
  figures-third l h e =
      let v = answered _ l h _ e in
      let s = figures-ratable v.0 in
      let size = stretch-length q.a q.b q.survival s.0 in
      let low-is : low_of q ≡ l = cc v.1 in
      let high_is : high_of q ≡ h = cc v.1 in
      rw (← low-is, ← high_is, ← size)
      (third-boards (unit_in q) (unit-some q.version) q.rule (part_of q) (read_of q) (boards_of q) (switchboards_of q) s.2.units
      (figures-boarded v.0).1.units s.2.accepted.size_low s.2.accepted.in-range)

-- a stretch from 1 to the end is the list
pub stretch-all : (xs : List ℕ) (n : ℕ) → length xs ≡ n → stretch 1 n xs ≡ xs
unfolding stretch
stretch-all xs n e = let h : suc n - 1 ≡ n = omega arith in rw h (take_all n xs (omega arith))
