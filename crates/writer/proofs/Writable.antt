-- What is typed and not refused: every check held, one by one; and how long its file is. Assumes nothing.
use mathlib.Core.Path.{◌≡◌, refl, ◌∙◌}
use mathlib.Core.Bool.{Bool, true, false, cond, not, ◌&&◌, ◌||◌}
use mathlib.Core.List.{List, []}
use native.Mathlib.Omega.{arith}
use Prim.Native.Nat.{ℕ, ◌-◌, ◌/◌, ◌%◌, ◌≤◌}
use lib.Dec.{eqb}
use lib.ListN.{length, take, drop}
use lib.Seq.{take_all}
use borrow.Author.Tests.{ltb-false, eqb-true, not-false}
use Rattle.rules.specs.Below.{within}
use Rattle.rules.specs.Boards.{has_boards, boards_read}
use Rattle.rules.specs.Refusal.{last_version, bad_version, most_boards, some_above, bad_boards, misplaced}
use Rattle.rules.specs.File.{most_fans, most_systems, per_system, board_fans, systems_of, file_length}
use Rattle.rules.specs.Writing.{Typed, deck_of, bytes_for, bad_fives, write_refusal}
use Rattle.rules.proofs.Lists.{below_length}
use Rattle.rules.proofs.Tests.{both, neither}
use Rattle.rules.proofs.EachKind.{within-true}
use Rattle.rules.proofs.Accepted.{none_first}
use Rattle.deck.proofs.File.{file-length}
use Rattle.layout.proofs.Versions.{header-bounds, fans-bound}

-- how many systems are typed
abbrev pub count : Typed → ℕ
count t = length t.numbers / per_system

pub count-is : (t : Typed) → length (deck_of t).systems ≡ count t
unfolding systems_of
count-is t = below_length (count t) _

-- how many boards are read
abbrev pub boards_typed : Typed → ℕ
boards_typed t = length (boards_read t.version t.switchboards)

pub bytes-long : (t : Typed) → length t.weights ≡ length t.survival → length (boards_read t.version t.boards) ≡ board_fans t.version (length t.survival)
    → length (bytes_for t) ≡ file_length t.version (length t.survival) (boards_typed t) (count t)
bytes-long t e f = file-length (deck_of t) ∙ rw (e, f, count-is t)

-- 20 and 21 not given: of lists as they are read
module _ (version n : ℕ) (boards numbers : List ℕ) (counted : bad_boards version (length numbers) ≡ false) (placed : misplaced version n (length numbers) boards boards ≡ false) where
  pub few-typed : length (boards_read version numbers) ≤ most_boards
  few-typed = go (has_boards version) counted
    where
      go : (b : Bool) → b && not (within 1 (length numbers) most_boards) ≡ false → length (cond b numbers []) ≤ most_boards
      go true h = (within-true 1 (length numbers) most_boards (not-false _ h)).1
      go false h = omega arith

  pub fans-typed : length (boards_read version boards) ≡ board_fans version n
  fans-typed = go (has_boards version) placed
    where
      go : (b : Bool) → b && (not (eqb (length boards) n) || some_above (length numbers) boards) ≡ false → length (cond b boards []) ≡ cond b n 0
      go true h = eqb-true (length boards) n (not-false _ (neither (not (eqb (length boards) n)) _ h).0)
      go false h = refl

  pub counted-read : bad_boards version (length (boards_read version numbers)) ≡ false
  counted-read = go (has_boards version) counted
    where
      go : (b : Bool) → b && not (within 1 (length numbers) most_boards) ≡ false → b && not (within 1 (length (cond b numbers [])) most_boards) ≡ false
      go true h = h
      go false h = refl

  pub placed-read : misplaced version n (length (boards_read version numbers)) (boards_read version boards) (boards_read version boards) ≡ false
  placed-read = go (has_boards version) placed
    where
      go : (b : Bool) → b && (not (eqb (length boards) n) || some_above (length numbers) boards) ≡ false
          → b && (not (eqb (length (cond b boards [])) n) || some_above (length (cond b numbers [])) (cond b boards [])) ≡ false
      go true h = h
      go false h = refl

  pub listed : has_boards version ≡ true → length boards ≡ n
  listed e = eqb-true (length boards) n (not-false _ (neither (not (eqb (length boards) n)) _ (rw e at placed)).0)

  -- the board numbers of all fans, as they are read
  pub whole-read : boards_read version (take (n - 0) (drop 0 boards)) ≡ boards_read version boards
  whole-read = go (has_boards version) refl
    where
      go : (b : Bool) → has_boards version ≡ b → cond b (take (n - 0) (drop 0 boards)) [] ≡ cond b boards []
      go true e = take_all (n - 0) boards (omega (arith, listed e))
      go false e = refl

-- what is read of a list that is read is that
pub read_twice : (version : ℕ) (xs : List ℕ) → boards_read version (boards_read version xs) ≡ boards_read version xs
read_twice version xs = go (has_boards version)
  where
    go : (b : Bool) → cond b (cond b xs []) [] ≡ cond b xs []
    go true = refl
    go false = refl

-- 12 not given
pub fives : (numbers : ℕ) → bad_fives numbers ≡ false
    → (numbers % per_system ≡ 0) × (1 ≤ numbers / per_system) × (numbers / per_system ≤ most_systems)
fives numbers e =
    let parts = both (eqb (numbers % per_system) 0) _ (not-false _ e) in
    let systems = within-true 1 (numbers / per_system) most_systems parts.1 in
    (eqb-true _ _ parts.0, systems.0, systems.1)

pub record Writable (t : Typed) (room : List ℕ) : Type 0 where
  pub versioned : bad_version t.version ≡ false
  pub some_fan : 1 ≤ length t.survival
  pub most_fans : length t.survival ≤ most_fans
  pub weighed : length t.weights ≡ length t.survival
  pub whole : length t.numbers % per_system ≡ 0
  pub some_system : 1 ≤ count t
  pub most-systems : count t ≤ most_systems
  pub counted : bad_boards t.version (length t.switchboards) ≡ false
  pub placed : misplaced t.version (length t.survival) (length t.switchboards) t.boards t.boards ≡ false
  pub fits : length (bytes_for t) ≤ length room

pub writable : (t : Typed) (room : List ℕ) → write_refusal t room ≡ 0 → Writable t room
unfolding write_refusal
writable t room e =
    let version = none_first 10 _ _ e in
    let size = none_first 1 _ _ version.1 in
    let weights = none_first 4 _ _ size.1 in
    let twelve = none_first 11 _ _ weights.1 in
    let boards = none_first 19 _ _ twelve.1 in
    let fans-placed = none_first 20 _ _ boards.1 in
    let short = none_first 15 _ _ fans-placed.1 in
    let fans = within-true 1 (length t.survival) most_fans (not-false _ size.0) in
    let systems = fives (length t.numbers) twelve.0 in
    record {
      versioned = version.0;
      some_fan = fans.0;
      most_fans = fans.1;
      weighed = eqb-true _ _ (not-false _ weights.0);
      whole = systems.0;
      some_system = systems.1;
      most-systems = systems.2;
      counted = boards.0;
      placed = fans-placed.0;
      fits = ltb-false _ _ short.0;
    }

-- the longest file is that of the last version, of which every count is the most
pub longest : (t : Typed) (room : List ℕ) → Writable t room → length (bytes_for t) ≤ file_length last_version most_fans most_boards most_systems
longest t room w =
    let n = length t.survival in
    let few = few-typed t.version n t.boards t.switchboards w.counted w.placed in
    let placed = fans-typed t.version n t.boards t.switchboards w.counted w.placed in
    let header = header-bounds t.version in
    let listed = fans-bound t.version n in
    omega (arith, bytes-long t w.weighed placed, w.most_fans, w.most-systems)
