-- No words of the two tables are longer than 71 letters: a test that computes over a table says so of each of its rows. Assumes nothing.
use mathlib.Core.Path.{◌≡◌, refl}
use mathlib.Core.Bool.{Bool, true, false, cond, ◌&&◌, false≢true}
use mathlib.Core.List.{List, [], ◌∷◌}
use Prim.Native.Nat.{ℕ, zero, suc, ◌+◌, ◌-◌, ◌≤◌}
use native.Mathlib.Omega.{arith}
use lib.Dec.{leb, ltb}
use lib.ListN.{length, get_or}
use borrow.Author.Tests.{leb-true}
use Rattle.faults.specs.Wanted.{by_place, by_name, words_for, words_room}

abbrev short : List (List ℕ) → Bool
short [] = true
short (words ∷ table) = leb (length words) words_room && short table

row-short : (table : List (List ℕ)) (k : ℕ) → short table ≡ true → length (get_or table k []) ≤ words_room
row-short [] k e = omega arith
row-short (words ∷ table) k e = go (leb (length words) words_room) refl k e (λ k e. row-short table k e)
  where
    go : (b : Bool) → leb (length words) words_room ≡ b → (k : ℕ) → b && short table ≡ true
        → ((k : ℕ) → short table ≡ true → length (get_or table k []) ≤ words_room) → length (get_or (words ∷ table) k []) ≤ words_room
    go true h zero e others = leb-true (length words) words_room h
    go true h (suc k) e others = others k e
    go false h k e others = absurd (false≢true e)

pub place_short : (k : ℕ) → length (get_or by_place k []) ≤ words_room
unfolding by_place
place_short k = row-short by_place k refl

pub name-short : (k : ℕ) → length (get_or by_name k []) ≤ words_room
unfolding by_name
name-short k = row-short by_name k refl

pub words-short : (wanted : ℕ) → length (words_for wanted) ≤ words_room
words-short wanted = go (ltb wanted 128)
  where
    go : (b : Bool) → length (cond b (get_or by_place (wanted - 64) []) (get_or by_name (wanted - 128) [])) ≤ words_room
    go true = place_short (wanted - 64)
    go false = name-short (wanted - 128)

-- what is no longer than its room fits where the room does
pub fits : {n room : ℕ} (at size : ℕ) → n ≤ room → at + room ≤ size → at + n ≤ size
fits at size short enough = omega arith
