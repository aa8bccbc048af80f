-- The combination as the program works it. A set of failed boards comes to what those of its boards come to that some fan is on, since the others take no fan with
-- them; and what stands for a set is one rounded step further with each board, by the laws of `Combining`. Assumes nothing.
use mathlib.Core.Path.{◌≡◌, refl, sym, ap, ◌∙◌}
use mathlib.Core.Bool.{Bool, true, false}
use mathlib.Core.Logic.{◌⊎◌, inl, inr}
use mathlib.Core.List.{List, [], ◌∷◌}
use Prim.Native.Nat.{ℕ, zero, suc, ◌+◌, ◌*◌, ◌/◌, ◌%◌, ◌^◌, ◌≤◌, ◌<◌, min, max}
use native.Mathlib.Omega.{arith}
use native.Mathlib.Decide.{ℕ_discrete}
use native.Mathlib.Nat.{pow-suc, mod-lt}
use lib.Arith.{digits_mod}
use lib.Bits.{bit_and, bit_or, and_step, or_step, and_shr, or_shr, and_le_l}
use lib.ListN.{length, get_or, drop, set, length-set, replicate, length-replicate}
use lib.Seq.{get_or-drop, get_or-set_same, get_or-set_other}
use borrow.Author.Count.{below_more}
use borrow.Author.Tests.{eqb-true, eq-eqb}
use Rattle.rules.specs.declared.Rule.{Rule}
use Rattle.rules.specs.State.{number_of}
use Rattle.rules.specs.Figure.{rounded, mixed, figure}
use Rattle.rules.specs.Boards.{board_down, behind, combined, figure_behind}
use Rattle.rules.specs.Refusal.{most_boards}
use Rattle.rules.specs.Accepted.{Boarded, Ratable}
use Rattle.rules.proofs.Conditions.{figure-within}
use Rattle.rules.proofs.Sets.{behind-length}
use Rattle.rules.proofs.Boards.{behind-units, combined-le, figure-none}
use Rattle.rules.proofs.Combining.{combinedTo, combining-none, combining-step, combining-all, behind-same}
use Rattle.places.specs.declared.Ends.{Ends}
use Rattle.places.specs.Cells.{one, Both, Within, Kept}
use Rattle.places.proofs.Cells.{both_at, both-as, room-kept, kept-none, kept_trans}
use Rattle.boards.specs.Combining.{figure_out, set_at, sets, Spaced, Behind, Felt, Halvable, Halved, Combinable}

-- the list with lost fans can be rated as the list can
pub behind-ratable : {u : ℕ} {rule : Rule} {survival beside table : List ℕ} (boards : List ℕ) (out : ℕ) → Ratable u rule survival beside table
    → Ratable u rule (behind boards out survival) beside table
behind-ratable {u} {rule} {survival} {beside} boards out r = record {
  accepted = rw (behind-length boards out survival) r.accepted;
  units = behind-units boards out survival r.units;
  room = r.room;
}

pub boarded-behind : {u : ℕ} {boards switchboards : List ℕ} → Boarded u boards switchboards → Behind boards
boarded-behind r = record { each = λ i. omega (arith, r.placed i, r.few) }

-- the table as it was worked
pub ratable-kept : {u : ℕ} {rule : Rule} {survival beside t₀ t : List ℕ} → Kept t₀ t → Ratable u rule survival beside t₀ → Ratable u rule survival beside t
ratable-kept k r = record { accepted = r.accepted; units = r.units; room = room-kept k r.room }

-- ---- sets of boards

-- a digit of a word is 0 or 1
small : (x : ℕ) → x % 2 < 2
small x = mod-lt x (omega arith)

and-digit : (a b k : ℕ) → bit_and a b / 2 ^ k % 2 ≡ min (a / 2 ^ k % 2) (b / 2 ^ k % 2)
and-digit a b k =
    let x = a / 2 ^ k in
    let y = b / 2 ^ k in
    ap (λ v. v % 2) (and_shr a b k ∙ and_step x y) ∙ digits_mod (bit_and (x / 2) (y / 2)) (omega (arith, small x, small y))

or-digit : (a b k : ℕ) → bit_or a b / 2 ^ k % 2 ≡ max (a / 2 ^ k % 2) (b / 2 ^ k % 2)
or-digit a b k =
    let x = a / 2 ^ k in
    let y = b / 2 ^ k in
    ap (λ v. v % 2) (or_shr a b k ∙ or_step x y) ∙ digits_mod (bit_or (x / 2) (y / 2)) (omega (arith, small x, small y))

-- a board of either set is in both together
pub either : (a b board : ℕ) → (board_down a board ≡ true) ⊎ (board_down b board ≡ true) → board_down (bit_or a b) board ≡ true
unfolding board_down
either a b zero (inl e) = e
either a b zero (inr e) = e
either a b (suc k) (inl e) = eq-eqb _ _ (or-digit a b k ∙ omega (arith, eqb-true (a / 2 ^ k % 2) 1 e, small (b / 2 ^ k)))
either a b (suc k) (inr e) = eq-eqb _ _ (or-digit a b k ∙ omega (arith, eqb-true (b / 2 ^ k % 2) 1 e, small (a / 2 ^ k)))

-- boards that no fan is on, taken out of a set, change no list
pub own : {boards : List ℕ} {felt : ℕ} (survival : List ℕ) (out : ℕ) → Felt boards felt → behind boards (bit_and out felt) survival ≡ behind boards out survival
unfolding number_of board_down
own {boards} {felt} survival out f = behind-same boards _ _ survival (λ i l. go (get_or boards i 0) (f.each i))
  where
    go : (board : ℕ) → (1 ≤ board → board_down felt board ≡ true) → board_down (bit_and out felt) board ≡ board_down out board
    go zero h = refl
    go (suc k) h =
        let one : felt / 2 ^ k % 2 ≡ 1 = eqb-true (felt / 2 ^ k % 2) 1 (h (omega arith)) in
        let same : bit_and out felt / 2 ^ k % 2 ≡ out / 2 ^ k % 2 = and-digit out felt k ∙ omega (arith, small (out / 2 ^ k)) in
        rw same

-- ---- the figures of the sets

-- only sets of the boards are asked for
combined-below : (up : Bool) (u : ℕ) (qs : List ℕ) (f g : ℕ → ℕ) → ((out : ℕ) → out < 2 ^ length qs → f out ≡ g out)
    → combined up u qs f ≡ combined up u qs g
unfolding combined
combined-below up u [] f g h = h 0 (omega arith)
combined-below up u (q ∷ qs) f g h =
    let size = pow-suc 2 (length qs) in
    rw (
      combined-below up u qs (λ out. f (out * 2)) (λ out. g (out * 2)) (λ out l. h (out * 2) (omega (arith, size))),
      combined-below up u qs (λ out. f (out * 2 + 1)) (λ out. g (out * 2 + 1)) (λ out l. h (out * 2 + 1) (omega (arith, size))),
    )

-- a set's figures written at its place
module _ {low high : List ℕ} (s : Spaced low high) (j : ℕ) (e : Ends) where
  pub spaced-set : Spaced (set low j e.low) (set high j e.high)
  spaced-set = record { lows = length-set low j e.low ∙ s.lows; highs = length-set high j e.high ∙ s.highs }

  pub set_here : j < sets → (up : Bool) → set_at up (set low j e.low) (set high j e.high) j ≡ one up e
  set_here l false = get_or-set_same low j e.low 0 (omega (arith, s.lows))
  set_here l true = get_or-set_same high j e.high 0 (omega (arith, s.highs))

  pub set_other : (k : ℕ) → (k ≡ j → ⊥) → (up : Bool) → set_at up (set low j e.low) (set high j e.high) k ≡ set_at up low high k
  set_other k away false = get_or-set_other low j k e.low 0 away
  set_other k away true = get_or-set_other high j k e.high 0 away

-- a board's step on its way: the first j sets are mixed, and the others stand as they were
pub record Mixing (u p half : ℕ) (low₀ high₀ low high : List ℕ) (j : ℕ) : Type 0 where
  pub spaced : Spaced low high
  pub upto : j ≤ half
  pub done : (up : Bool) (k : ℕ) → k < j → set_at up low high k ≡ rounded up u (mixed u p (set_at up low₀ high₀ k) (set_at up low₀ high₀ (half + k)))
  pub left : (up : Bool) (k : ℕ) → j ≤ k → set_at up low high k ≡ set_at up low₀ high₀ k

-- a set that is still to be mixed
pub mixing-within : {u p half j k : ℕ} {low₀ high₀ low high : List ℕ} → ((up : Bool) (j : ℕ) → j < half + half → set_at up low₀ high₀ j ≤ u)
    → Mixing u p half low₀ high₀ low high j → j ≤ k → k < half + half → Within u (record { low = get_or low k 0; high = get_or high k 0 })
mixing-within {u} {k = k} within m from upto = record { low = rw (m.left false k from) (within false k upto); high = rw (m.left true k from) (within true k upto) }

pub few-sets : (b : ℕ) → b ≤ most_boards → 2 ^ b ≤ sets
few-sets zero l = omega arith
few-sets (suc zero) l = omega arith
few-sets (suc (suc zero)) l = omega arith
few-sets (suc (suc (suc zero))) l = omega arith
few-sets (suc (suc (suc (suc zero)))) l = omega arith
few-sets (suc (suc (suc (suc (suc b))))) l = absurd (omega arith)

-- the boards combined down to board b + 1
pub record Folding (u : ℕ) (qs low₀ high₀ low high : List ℕ) (b : ℕ) : Type 0 where
  pub spaced : Spaced low high
  pub upto : b ≤ length qs
  pub stands : (up : Bool) (j : ℕ) → j < 2 ^ b → set_at up low high j ≡ combinedTo up u qs (set_at up low₀ high₀) b j

pub folding-none : {u : ℕ} {qs low high : List ℕ} → Combinable u qs low high → Folding u qs low high low high (length qs)
folding-none {u} {qs} {low} {high} h = record {
  spaced = h.spaced;
  upto = omega arith;
  stands = λ up j l. sym (combining-none up u qs (set_at up low high) j);
}

module _ {u : ℕ} (pos : 0 < u) {qs low₀ high₀ low high : List ℕ} (start : Combinable u qs low₀ high₀) {b b' half : ℕ} (f : Folding u qs low₀ high₀ low high b)
    (next : b ≡ suc b') (size : half ≡ 2 ^ b') where
  twice : half + half ≡ 2 ^ b
  twice = rw (size, next, pow-suc 2 b') (omega arith)

  folding-within : (up : Bool) (j : ℕ) → j < half + half → set_at up low high j ≤ u
  unfolding combinedTo
  folding-within up j l =
      rw (f.stands up j (rw twice at l))
      (combined-le u pos up (drop b qs) _ (λ i. rw (get_or-drop b qs i 0) (start.units (b + i))) (λ G. start.within up (G * 2 ^ b + j)))

  pub folding-halvable : Halvable u qs b' half low high
  folding-halvable = record {
    place = omega (arith, f.upto);
    units = start.units;
    few = rw twice (few-sets b (omega (arith, f.upto, start.few)));
    spaced = f.spaced;
    within = folding-within;
  }

  pub folding-more : {low' high' : List ℕ} → Halved u (get_or qs b' 0) half low high low' high' → Folding u qs low₀ high₀ low' high' b'
  folding-more {low'} {high'} h = record {
    spaced = h.spaced;
    upto = omega (arith, f.upto);
    stands = λ up j l. h.each up j (rw size l) ∙ stands up j l;
  }
    where
      stands : (up : Bool) (j : ℕ) → j < 2 ^ b' → rounded up u (mixed u (get_or qs b' 0) (set_at up low high j) (set_at up low high (half + j))) ≡ combinedTo up u qs (set_at up low₀ high₀) b' j
      stands up j l =
          rw (
            f.stands up j (omega (arith, twice, size)),
            f.stands up (half + j) (omega (arith, twice, size)),
            next,
            combining-step up u qs (set_at up low₀ high₀) b' j (omega (arith, f.upto)),
            size,
          )
          (ap (λ k. rounded up u (mixed u (get_or qs b' 0) (combinedTo up u qs (set_at up low₀ high₀) (suc b') j) (combinedTo up u qs (set_at up low₀ high₀) (suc b') k))) (omega arith))

pub folding-all : {u b : ℕ} {qs low₀ high₀ low high : List ℕ} → b ≡ 0 → Folding u qs low₀ high₀ low high b
    → Both (λ up. combined up u qs (set_at up low₀ high₀)) (record { low = get_or low 0 0; high = get_or high 0 0 })
folding-all {u} {b} {qs} {low₀} {high₀} {low} {high} e f = record { low = all false; high = all true }
  where
    all : (up : Bool) → set_at up low high 0 ≡ combined up u qs (set_at up low₀ high₀)
    all up =
        f.stands up 0 (rw e (omega arith)) ∙ ap (λ k. combinedTo up u qs (set_at up low₀ high₀) k 0) e
        ∙ combining-all up u qs (set_at up low₀ high₀)

-- ---- the ratings

-- the first `out` sets are rated
pub record Sets (u : ℕ) (rule : Rule) (survival beside boards t₀ t low high : List ℕ) (out : ℕ) : Type 0 where
  pub spaced : Spaced low high
  pub within : (up : Bool) (j : ℕ) → set_at up low high j ≤ u
  pub stands : (up : Bool) (j : ℕ) → j < out → set_at up low high j ≡ figure_out up u rule survival beside boards j
  pub kept : Kept t₀ t

zeros : (n j : ℕ) → ◌≡◌ {A = ℕ} (get_or (replicate n 0) j 0) 0
zeros zero j = refl
zeros (suc n) zero = refl
zeros (suc n) (suc j) = zeros n j

pub sets-none : {u : ℕ} {rule : Rule} {survival beside boards t : List ℕ} → Sets u rule survival beside boards t t (replicate sets 0) (replicate sets 0) 0
sets-none {u} = record {
  spaced = record { lows = length-replicate {A = ℕ} sets 0; highs = length-replicate {A = ℕ} sets 0 };
  within = λ up j. none up j;
  stands = λ up j l. absurd (omega arith);
  kept = kept-none;
}
  where
    none : (up : Bool) (j : ℕ) → set_at up (replicate sets 0) (replicate sets 0) j ≤ u
    none false j = rw (zeros sets j) (omega arith)
    none true j = rw (zeros sets j) (omega arith)

module _ {u : ℕ} (pos : 0 < u) {rule : Rule} {survival beside boards t₀ t low high : List ℕ} {out : ℕ} (able : Ratable u rule survival beside t₀)
    (s : Sets u rule survival beside boards t₀ t low high out) where
  abbrev figures : Bool → ℕ → ℕ
  figures up out = figure_out up u rule survival beside boards out

  -- a set with a board that no fan is on
  pub sets-own : {felt : ℕ} → Felt boards felt → (bit_and out felt ≡ out → ⊥)
      → Both (λ up. figures up out) (record { low = get_or low (bit_and out felt) 0; high = get_or high (bit_and out felt) 0 })
  sets-own {felt} h ne = record { low = same false; high = same true }
    where
      same : (up : Bool) → set_at up low high (bit_and out felt) ≡ figures up out
      same up = s.stands up (bit_and out felt) (omega (arith, and_le_l out felt, ne)) ∙ ap (λ xs. figure up u rule xs beside) (own survival out h)

  pub sets_more : {t' : List ℕ} {e : Ends} → out < sets → Both (λ up. figures up out) e → Kept t t'
      → Sets u rule survival beside boards t₀ t' (set low out e.low) (set high out e.high) (out + 1)
  sets_more {e = e} l b k = record {
    spaced = spaced-set s.spaced out e;
    within = λ up j. go up j (ℕ_discrete j out);
    stands = λ up. below_more _ out (λ j h. set_other s.spaced out e j (λ q. omega arith) up ∙ s.stands up j h) (set_here s.spaced out e l up ∙ both_at b up);
    kept = kept_trans s.kept k;
  }
    where
      go : (up : Bool) (j : ℕ) → Dec (j ≡ out) → set_at up (set low out e.low) (set high out e.high) j ≤ u
      go up j (yes q) =
          rw (q, set_here s.spaced out e l up, both_at b up)
          (figure-within up pos rule _ beside (behind-units boards out survival able.units))
      go up j (no q) = rw (set_other s.spaced out e j q up) (s.within up j)

  pub sets-combinable : {qs : List ℕ} → Boarded u boards qs → Combinable u qs low high
  sets-combinable b = record { few = b.few; units = b.units; spaced = s.spaced; within = s.within }

  -- all sets
  pub sets-all : (qs : List ℕ) {r : Ends} → 2 ^ length qs ≤ out → Both (λ up. combined up u qs (set_at up low high)) r
      → Both (λ up. figure_behind up u rule survival beside boards qs) r
  sets-all qs l = both-as (λ up. combined-below up u qs _ _ (λ j h. s.stands up j (omega arith)))

-- no boards at all
pub alone : (up : Bool) (u : ℕ) (rule : Rule) (survival beside boards qs : List ℕ) → length qs ≡ 0
    → figure up u rule survival beside ≡ figure_behind up u rule survival beside boards qs
unfolding combined
alone up u rule survival beside boards [] e = sym (figure-none up u rule survival beside boards)
alone up u rule survival beside boards (q ∷ qs) e = absurd (omega arith)
