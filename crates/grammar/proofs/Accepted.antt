-- A text without a fault lists a deck that the writer does not refuse, but for room: what the file needs is there, and no more than it holds. Assumes nothing.
use mathlib.Core.Path.{◌≡◌, refl, sym, ap, ◌∙◌}
use mathlib.Core.Bool.{Bool, true, false, cond, not, true≢false, ◌&&◌, ◌||◌}
use mathlib.Core.List.{List, [], ◌∷◌, ◌++◌}
use Prim.Native.Nat.{ℕ, zero, suc, ◌*◌, ◌/◌, ◌%◌, ◌≤◌, ◌<◌}
use native.Mathlib.Omega.{arith}
use lib.Dec.{eqb, ltb}
use lib.ListN.{length, get_or, length-append}
use borrow.Author.Tests.{eq-eqb, ne_eqb, eqb-false, le-leb}
use Rattle.rules.specs.Below.{within, some}
use Rattle.rules.specs.Refusal.{bad_version, bad_size, bad_boards, most_boards, misplaced, some_above, first_of}
use Rattle.rules.specs.File.{most_fans, most_systems}
use Rattle.rules.specs.Writing.{unpaired, bad_fives, short_for, write_refusal}
use Rattle.rules.proofs.Windows.{some-none}
use Rattle.rules.proofs.Accepted.{first-after}
use Rattle.text.specs.Decimal.{decimal}
use Rattle.grammar.specs.Words.{lines_of}
use Rattle.grammar.specs.Text.{Fault, fault_at, no_fan, no_system, no_board, no_such_board, Listed, missing, unplaced, last_faults, nothing, with_lines, faults_of, five_of, numbers_of, typed_by, typed_text}
use Rattle.grammar.proofs.Versions.{version-read}
use Rattle.grammar.proofs.Listing.{Numbered, Kept, kept_read}

-- of lists put together that are empty, each is
both-empty : (xs ys : List Fault) → xs ++ ys ≡ [] → (xs ≡ []) × (ys ≡ [])
both-empty [] ys e = (refl, e)
both-empty (x ∷ xs) ys e = let z : ◌≡◌ {A = ℕ} 0 1 = cc in absurd (omega arith)

none_told : (b : Bool) (x : Fault) (xs ys : List Fault) → cond b (x ∷ xs) ys ≡ [] → (b ≡ false) × (ys ≡ [])
none_told true x xs ys e = let z : ◌≡◌ {A = ℕ} 0 1 = cc in absurd (omega arith)
none_told false x xs ys e = (refl, e)

none-missing : (lines : ℕ) (lacks : Bool) (wanted : ℕ) → missing lines lacks wanted ≡ [] → lacks ≡ false
none-missing lines true wanted e = let z : ◌≡◌ {A = ℕ} 0 1 = cc in absurd (omega arith)
none-missing lines false wanted e = refl

in-range : (x most : ℕ) → eqb x 0 ≡ false → x ≤ most → not (within 1 x most) ≡ false
in-range x most e h =
    let l : 1 ≤ x = omega (arith, eqb-false x 0 e) in
    rw (le-leb 1 x l, le-leb x most h)

never_both : (a b : Bool) → a && b ≡ false → a ≡ true → b ≡ false
never_both true b e h = e
never_both false b e h = absurd (true≢false (sym h))

-- no fan stands on a board that is not there
all_placed : (g : ℕ) (boards lines : List ℕ) → length lines ≡ length boards → Numbered lines → unplaced g 0 boards lines ≡ []
    → (a : ℕ) → a < length boards → ltb g (get_or boards a 0) ≡ true → ⊥
unfolding Numbered unplaced
all_placed g [] lines n h e a l t = absurd (omega arith)
all_placed g (b ∷ boards) [] n h e a l t = absurd (omega arith)
all_placed g (b ∷ boards) (line ∷ lines) n h e zero l t =
    let first = (none_told (ltb g b && not (eqb line 0)) (fault_at line (decimal b) no_such_board g) (unplaced g line boards lines) (unplaced g 0 boards lines) e).0 in
    let z : line ≡ 0 → ⊥ = λ q. omega (arith, h.0, q) in
    true≢false (sym (ap not (ne_eqb line 0 z)) ∙ never_both (ltb g b) (not (eqb line 0)) first t)
all_placed g (b ∷ boards) (line ∷ lines) n h e (suc a) l t =
    all_placed g boards lines (omega arith) h.1 (none_told (ltb g b && not (eqb line 0)) (fault_at line (decimal b) no_such_board g) (unplaced g line boards lines) (unplaced g 0 boards lines) e).1 a (omega arith) t

-- five numbers a system
pub fives : (n : ℕ) (systems : List (List ℕ)) → length (numbers_of n systems) ≡ length systems * 5
unfolding numbers_of
fives n [] = refl
fives n (set ∷ systems) = rw (length-append (five_of n set) (numbers_of n systems), fives n systems) (omega arith)

nothing_left : first_of [] ≡ 0
unfolding first_of
nothing_left = refl

module _ (s : Listed) (k : Kept s) (none : last_faults s ≡ []) where
  abbrev noFans : List Fault
  noFans = missing s.lines (eqb (length s.survival) 0) no_fan

  abbrev noSystems : List Fault
  noSystems = missing s.lines (eqb (length s.systems) 0) no_system

  abbrev no_boards : List Fault
  no_boards = missing s.lines (eqb s.version 3 && eqb (length s.switchboards) 0) no_board

  abbrev elsewhere : List Fault
  elsewhere = cond (eqb (length s.switchboards) 0) [] (unplaced (length s.switchboards) 0 s.boards s.fan_lines)

  record Whole : Type 0 where
    fans : eqb (length s.survival) 0 ≡ false
    systems : eqb (length s.systems) 0 ≡ false
    boards : eqb s.version 3 && eqb (length s.switchboards) 0 ≡ false
    placed : elsewhere ≡ []

  whole : Whole
  whole =
      let a = both-empty (noFans ++ noSystems ++ no_boards) elsewhere none in
      let b = both-empty (noFans ++ noSystems) no_boards a.0 in
      let d = both-empty noFans noSystems b.0 in
      record {
        fans = none-missing s.lines (eqb (length s.survival) 0) no_fan d.0;
        systems = none-missing s.lines (eqb (length s.systems) 0) no_system d.1;
        boards = none-missing s.lines (eqb s.version 3 && eqb (length s.switchboards) 0) no_board b.1;
        placed = a.1;
      }

  sized : bad_size (length s.survival) ≡ false
  sized = in-range (length s.survival) most_fans whole.fans k.fans

  paired : unpaired (typed_by s) ≡ false
  paired = rw (eq-eqb (length s.weights) (length s.survival) k.weighed)

  counted : bad_fives (length (numbers_of (length s.survival) s.systems)) ≡ false
  counted =
      let m = length s.systems in
      let l : 1 ≤ m = omega (arith, eqb-false m 0 whole.systems) in
      let r : m * 5 % 5 ≡ 0 = omega arith in
      let q : m * 5 / 5 ≡ m = omega arith in
      rw (fives (length s.survival) s.systems, r, q, le-leb 1 m l, le-leb m most_systems k.systems)

  boarded : bad_boards s.version (length s.switchboards) ≡ false
  boarded = go (eqb s.version 3) whole.boards
    where
      g : ℕ
      g = length s.switchboards

      go : (b : Bool) → b && eqb g 0 ≡ false → b && not (within 1 g most_boards) ≡ false
      go true e = in-range g most_boards e k.boards
      go false e = refl

  where-fans-stand : misplaced s.version (length s.survival) (length s.switchboards) s.boards s.boards ≡ false
  unfolding some_above
  where-fans-stand = go (eqb s.version 3) whole.boards
    where
      g : ℕ
      g = length s.switchboards

      above : eqb g 0 ≡ false → some (λ i. ltb g (get_or s.boards i 0)) (length s.boards) ≡ false
      above e =
          (some-none (λ i. ltb g (get_or s.boards i 0)) (length s.boards)).1
          (all_placed g s.boards s.fan_lines (k.lined ∙ sym k.placed) k.numbered (rw e at whole.placed))

      go : (b : Bool) → b && eqb g 0 ≡ false
          → b && (not (eqb (length s.boards) (length s.survival)) || some (λ i. ltb g (get_or s.boards i 0)) (length s.boards)) ≡ false
      go true e = rw (eq-eqb (length s.boards) (length s.survival) k.placed) (above e)
      go false e = refl

  not-refused : (room : List ℕ) → bad_version s.version ≡ false → short_for (typed_by s) room ≡ false → write_refusal (typed_by s) room ≡ 0
  unfolding write_refusal
  not-refused room v short =
      first-after 11 _ _ v
      ∙ first-after 2 _ _ sized
      ∙ first-after 5 _ _ paired
      ∙ first-after 12 _ _ counted
      ∙ first-after 20 _ _ boarded
      ∙ first-after 21 _ _ where-fans-stand
      ∙ first-after 16 _ [] short
      ∙ nothing_left

-- of lines, and so of a text
pub lines-written : (lines : List (List ℕ)) (room : List ℕ) → (with_lines nothing lines).faults ++ last_faults (with_lines nothing lines) ≡ []
    → short_for (typed_by (with_lines nothing lines)) room ≡ false → write_refusal (typed_by (with_lines nothing lines)) room ≡ 0
lines-written lines room none short =
    let s = with_lines nothing lines in
    not-refused s (kept_read lines) (both-empty s.faults (last_faults s) none).1 room (version-read lines) short

pub never-refused : (text room : List ℕ) → faults_of text ≡ [] → short_for (typed_text text) room ≡ false → write_refusal (typed_text text) room ≡ 0
unfolding faults_of typed_text
never-refused text room none short = lines-written (lines_of text) room none short
