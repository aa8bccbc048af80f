-- Words with numbers between them.
use Rattle.std.specs.Prelude.{cond, List, [], ◌++◌, ℕ, ◌+◌, eqb, length}
use Rattle.text.specs.Lines.{named, named_room, pair_text, pair_room}

-- a named number, and what stands behind it
abbrev pub one_text : (before : List ℕ) (k : ℕ) (behind : List ℕ) → List ℕ
one_text before k behind = named before k ++ behind

abbrev pub one_room : (before behind : List ℕ) → ℕ
one_room before behind = named_room before + length behind

-- two of them, likewise
abbrev pub two_text : (before : List ℕ) (a : ℕ) (between : List ℕ) (b : ℕ) (behind : List ℕ) → List ℕ
two_text before a between b behind = pair_text before a between b ++ behind

abbrev pub two_room : (before between behind : List ℕ) → ℕ
two_room before between behind = pair_room before between + length behind

-- a named number that is left out where it is 0
abbrev pub some_text : (name : List ℕ) (n : ℕ) → List ℕ
some_text name n = cond (eqb n 0) [] (named name n)
