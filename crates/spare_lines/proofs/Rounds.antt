-- How long the lines of a group are: a place's room for each of its places; so that no more room is needed than for as many places as are named. Assumes nothing.
use mathlib.Core.Path.{◌≡◌, refl, sym, ap, ap₂, ◌∙◌}
use mathlib.Core.Bool.{Bool, true, false, not, cond, ◌&&◌}
use mathlib.Core.List.{List, []}
use Prim.Native.Nat.{ℕ, zero, suc, ◌+◌, ◌*◌, ◌≤◌, ◌<◌}
use native.Mathlib.Decide.{dec_le}
use native.Mathlib.Nat.{mul-le-mul_left}
use native.Mathlib.Numerals.{add-one}
use native.Mathlib.Omega.{arith}
use lib.Dec.{ltb}
use lib.IntN.{sub_ℕ}
use lib.ListN.{length, get_or, replicate, length-append}
use lib.Signed.{le_z}
use Rattle.rules.specs.Below.{held}
use Rattle.rules.specs.Refusal.{most}
use Rattle.rules.proofs.Sums.{held_same}
use Rattle.units.specs.Step.{whole}
use Rattle.text.specs.Decimal.{text}
use Rattle.text.specs.Lines.{pair_text}
use Rattle.places.specs.declared.Ends.{Ends}
use Rattle.printing.specs.Lines.{lines_text}
use Rattle.printing.proofs.Lined.{Lined}
use Rattle.spares.specs.declared.Places.{Places}
use Rattle.spares.proofs.Highest.{highest-same}
use Rattle.pair_lines.specs.Rated.{rated_text}
use Rattle.pair_lines.proofs.Lengths.{pair-short, rated-short}
use Rattle.spare_lines.specs.declared.best.Shown.{Shown}
use Rattle.spare_lines.specs.Lines.{ends_of, place_in}
use Rattle.spare_lines.specs.Ranks.{Ranked, upper_at, reaches, alike, left_after, group_at, gone_after, left_in}
use Rattle.spare_lines.specs.Best.{ranked_in, Grouped, fan_text, place_text, place_if, place_room, group_text, group_in, group_room, round_text, best_text, best_room}
use Rattle.spare_lines.proofs.Same.{lines_same}
use Rattle.spare_lines.proofs.Ranks.{gone-left}

place_short : (shown : Shown) (rank count fan : ℕ) (after : Ends) → length (place_text shown rank count fan after) ≤ place_room
place_short shown rank count fan after =
    let u = whole shown.decimal in
    omega (
      arith,
      length-append (pair_text (text "system ") shown.s (text " rank ") rank) (fan_text u count fan after),
      length-append (pair_text (text " alike ") count (text " fan ") fan) (rated_text u after.low after.high),
      pair-short (text "system ") shown.s (text " rank ") rank,
      pair-short (text " alike ") count (text " fan ") fan,
      rated-short u after.low after.high,
    )

-- lines of which some are left out
pub some-short : (room k : ℕ) (p : ℕ → Bool) (line : ℕ → List ℕ) → ((i : ℕ) → length (line i) ≤ room * cond (p i) 1 0) → length (lines_text k line) ≤ room * held p k
unfolding lines_text held
some-short room zero p line h = omega arith
some-short room (suc k) p line h = omega (arith, length-append (lines_text k line) (line k), some-short room k p line h, h k)

pub if-short : (named : Bool) (shown : Shown) (rank count fan : ℕ) (after : Ends) → length (place_if named shown rank count fan after) ≤ place_room * cond named 1 0
if-short true shown rank count fan after = omega (arith, place_short shown rank count fan after)
if-short false shown rank count fan after = omega arith

held_more : (p : ℕ → Bool) (i k : ℕ) → i < k → p i ≡ true → held p i + 1 ≤ held p k
unfolding held
held_more p i zero l e = absurd (omega arith)
held_more p i (suc k) l e = go (λ m. held_more p i k m e) (dec_le (suc i) k)
  where
    go : (i < k → held p i + 1 ≤ held p k) → Dec (suc i ≤ k) → held p i + 1 ≤ held p k + cond (p k) 1 0
    go before (yes m) = omega (arith, before m)
    go before (no m) =
        let at : i ≡ k = omega arith in
        rw (← at, e) (omega arith)

-- a member of a group has room where the group has
pub member-fits : (shown : Shown) (rank count : ℕ) (alike : List Bool) (low high : List ℕ) {out₀ out : List ℕ} {at end i : ℕ}
    → Lined shown.size (λ j. place_if (get_or alike j false) shown rank count (shown.a + j) (ends_of (get_or low j 0) (get_or high j 0))) out₀ at out end i
    → i < shown.size → get_or alike i false ≡ true → at + group_room shown.size alike ≤ length out₀ → end + place_room ≤ length out
member-fits shown rank count alike low high {i = i} l more is all =
    let p : ℕ → Bool = λ j. get_or alike j false in
    let line : ℕ → List ℕ = λ j. place_if (p j) shown rank count (shown.a + j) (ends_of (get_or low j 0) (get_or high j 0)) in
    let passed = some-short place_room i p line (λ j. if-short (p j) shown rank count (shown.a + j) (ends_of (get_or low j 0) (get_or high j 0))) in
    let next = mul-le-mul_left place_room (held_more p i shown.size more is) in
    omega (arith, l.same, l.lines.ends, passed, next, all)

-- ---- rounds

group-short : (shown : Shown) (rank : ℕ) (k : Ranked) (group : ℕ → Bool) → length (group_text shown rank k group) ≤ place_room * held group k.size
group-short shown rank k group =
    some-short place_room k.size group _ (λ j. if-short (group j) shown rank (held group k.size) (shown.a + j) (ends_of (k.low j) (k.high j)))

round-short : (shown : Shown) (best : ℕ) (k : Ranked) (r : ℕ) → length (round_text shown best k r) ≤ place_room * held (group_at k r) k.size
round-short shown best k r = go (ltb (gone_after k r) best)
  where
    go : (b : Bool) → length (cond b (group_text shown (gone_after k r + 1) k (group_at k r)) []) ≤ place_room * held (group_at k r) k.size
    go true = group-short shown (gone_after k r + 1) k (group_at k r)
    go false = omega arith

rounds-short : (shown : Shown) (best : ℕ) (k : Ranked) (r : ℕ) → length (lines_text r (round_text shown best k)) ≤ place_room * gone_after k r
unfolding lines_text gone_after
rounds-short shown best k zero = omega arith
rounds-short shown best k (suc r) =
    omega (arith, length-append (lines_text r (round_text shown best k)) (round_text shown best k r), rounds-short shown best k r, round-short shown best k r)

-- all rounds
pub best-short : (shown : Shown) (best : ℕ) (k : Ranked) → k.size ≤ most → length (best_text shown best k) ≤ best_room
best-short shown best k few =
    let gone : gone_after k k.size ≤ most = omega (arith, gone-left k k.size) in
    let all = mul-le-mul_left place_room gone in
    omega (arith, all, rounds-short shown best k k.size)

-- a round of those that are left in arrays
pub record Standing (k : Ranked) (r : ℕ) (left : List Bool) (n : ℕ) : Type 0 where
  pub long : length left ≡ most
  pub agrees : (i : ℕ) → i < k.size → left_in left i ≡ left_after k r i
  pub gone : n ≡ gone_after k r

trues : (n i : ℕ) → i < n → get_or (replicate n true) i false ≡ true
trues zero i l = absurd (omega arith)
trues (suc n) zero l = refl
trues (suc n) (suc i) l = trues n i (omega arith)

pub first-standing : (k : Ranked) → k.size ≤ most → Standing k 0 (replicate most true) 0
unfolding left_after gone_after
first-standing k few = record { long = refl; agrees = λ i l. trues most i (omega (arith, l, few)); gone = refl }

module _ (k : Ranked) (r : ℕ) {left lefts group : List Bool} {count gone : ℕ} (s : Standing k r left gone) (g : Grouped k (left_in left) lefts group count) where
  reach-same : (i : ℕ) → reaches k (left_in left) i ≡ reaches k (left_after k r) i
  reach-same i = ap (λ top. le_z (sub_ℕ top k.before.high) (upper_at k i)) (highest-same k.low (left_in left) (left_after k r) k.size s.agrees)

  alike_same : (i : ℕ) → i < k.size → alike k (left_in left) i ≡ group_at k r i
  alike_same i l = ap₂ ◌&&◌ (s.agrees i l) (reach-same i)

  pub members-are : (i : ℕ) → i < k.size → get_or group i false ≡ group_at k r i
  members-are i l = g.members i l ∙ alike_same i l

  pub count-is : count ≡ held (group_at k r) k.size
  count-is = g.count ∙ held_same _ _ k.size alike_same

  pub next-round : Standing k (r + 1) lefts (gone + count)
  unfolding left_after gone_after
  next-round = record {
    long = g.long.0;
    agrees = λ i l. rw add-one (g.others i l ∙ ap₂ (λ a b. a && not b) (s.agrees i l) (reach-same i));
    gone = rw add-one (ap₂ ◌+◌ s.gone count-is);
  }

  -- what is named so far and the group are no more than there are
  pub named-most : gone + count ≤ k.size
  unfolding gone_after
  named-most = omega (arith, gone-left k (suc r), s.gone, count-is)

-- a group has room where all have, and its lines are the round's
module _ (shown : Shown) (best : ℕ) (places : Places) (before : Ends) (r : ℕ) where
  abbrev ranked : Ranked
  ranked = ranked_in shown.size places before

  module _ {left lefts group : List Bool} {count gone : ℕ} (s : Standing ranked r left gone) (g : Grouped ranked (left_in left) lefts group count) where
    pub round-fits : {out₀ out : List ℕ} {at end : ℕ} → Lined shown.size (round_text shown best ranked) out₀ at out end r → shown.size ≤ most
        → at + best_room ≤ length out₀ → end + group_room shown.size group ≤ length out
    round-fits l few all =
        let counted : held (λ i. get_or group i false) shown.size ≡ count = held_same _ _ shown.size g.members ∙ sym g.count in
        let named : gone + count ≤ most = omega (arith, named-most ranked r s g, few) in
        let room = mul-le-mul_left place_room named in
        let same = ap (λ n. place_room * n) counted in
        let gone-is = ap (λ n. place_room * n) s.gone in
        omega (arith, all, room, same, gone-is, l.same, l.lines.ends, rounds-short shown best ranked r)

    pub round_is : cond (ltb gone best) (group_in shown (gone + 1) count group places) [] ≡ round_text shown best ranked r
    round_is =
        ap₂ (λ n t. cond (ltb n best) t []) s.gone
        (lines_same shown.size _ _
        (λ i l x. place_if (members-are ranked r s g i l x) shown (s.gone x + 1) (count-is ranked r s g x) (shown.a + i) (place_in places i)))
