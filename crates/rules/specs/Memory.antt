-- Document 01, "The memory of a reading": a general memory, then the table row by row.
use Rattle.std.specs.Prelude.{Bool, true, false, cond, not, List, [], ◌∷◌, ℕ, zero, suc, ◌+◌, ◌-◌, ◌*◌, ◌%◌, ◌^◌, min, max, ltb, leb}
use Rattle.std.specs.Int.Count.{ones}
use Rattle.rules.specs.declared.Pair.{Pair}
use Rattle.rules.specs.declared.Rule.{Rule}
use Rattle.rules.specs.Below.{within, row_of}
use Rattle.rules.specs.State.{number_of, down}
use Rattle.rules.specs.Pairs.{pairs_of, any_of, too_few}

-- A general memory: where a reading starts, what it becomes on a working and on a failed component (whose number it is told), and whether it
-- works at the end.
pub record Machine (M : Type 0) : Type 0 where
  pub start : M
  pub worked : ℕ → M → M
  pub failed : ℕ → M → M
  pub ends : M → Bool

-- reading the components i down to 1 of the state w from the memory m: does it end working?
unfoldable pub run : {M : Type 0} → Machine M → ℕ → M → ℕ → Bool
run K zero m w = K.ends m
run K (suc i) m w = run K i (cond (down i w) (K.failed (suc i) m) (K.worked (suc i) m)) w

-- A row of the table says what a memory becomes, or that it is dead.
pub data Memory (A : Type 0) : Type 0 where
  live : A → Memory A
  dead : Memory A

pub record Row (A : Type 0) : Type 0 where
  pub start : A
  pub working : ℕ → A → Memory A
  pub failing : ℕ → A → Memory A
  pub end : A → Bool

-- a dead memory stays dead, and does not work at the end
unfoldable pub moved : {A : Type 0} → (A → Memory A) → Memory A → Memory A
moved f (live a) = f a
moved f dead = dead

unfoldable pub ended : {A : Type 0} → (A → Bool) → Memory A → Bool
ended f (live a) = f a
ended f dead = false

abbrev pub machine_of : {A : Type 0} → Row A → Machine (Memory A)
machine_of R = record {
  start = live R.start;
  worked = λ i. moved (R.working i);
  failed = λ i. moved (R.failing i);
  ends = ended R.end;
}

-- "k is dead", "k or more is dead": what stands while x is below k
abbrev pub below : {A : Type 0} → (x k : ℕ) → A → Memory A
below x k a = cond (ltb x k) (live a) dead

-- rows 1 and 2: start 0; unchanged; add 1, or its weight, k or more is dead; works
abbrev pub row1 : (k : ℕ) (weight : ℕ → ℕ) → Row ℕ
row1 k weight = record {
  start = 0;
  working = λ i c. live c;
  failing = λ i c. below (c + weight i) k (c + weight i);
  end = λ c. true;
}

-- row 3: start 0; unchanged; add 1; fails exactly if between l and h
abbrev pub row3 : (l h : ℕ) → Row ℕ
row3 l h = record {
  start = 0;
  working = λ i c. live c;
  failing = λ i c. live (suc c);
  end = λ c. not (within l c h);
}

-- row 4: start 0; 0; add 1, k is dead; works
abbrev pub row4 : (k : ℕ) → Row ℕ
row4 k = record {
  start = 0;
  working = λ i s. live 0;
  failing = λ i s. below (suc s) k (suc s);
  end = λ s. true;
}

-- the memories of the rings: `lead t` of row 5 is "clean x" of row 7, and `pair` is (t, s) of row 5 and (x, g) of row 7
pub data Ring : Type 0 where
  lead : ℕ → Ring
  pair : ℕ → ℕ → Ring

-- row 5: start lead 0; lead t becomes (t, 0), (t, s) becomes (t, 0); lead t becomes lead t+1, (t, s) becomes (t, s+1), lead k or s = k is
-- dead; works exactly if t + s < k
unfoldable pub working5 : Ring → Memory Ring
working5 (lead t) = live (pair t 0)
working5 (pair t s) = live (pair t 0)

unfoldable pub failing5 : (k : ℕ) → Ring → Memory Ring
failing5 k (lead t) = below (suc t) k (lead (suc t))
failing5 k (pair t s) = below (suc s) k (pair t (suc s))

unfoldable pub end5 : (k : ℕ) → Ring → Bool
end5 k (lead t) = ltb t k
end5 k (pair t s) = ltb (t + s) k

abbrev pub row5 : (k : ℕ) → Row Ring
row5 k = record { start = lead 0; working = λ i. working5; failing = λ i. failing5 k; end = end5 k }

-- row 6: start 0; one less, not below 0; 0 becomes r - 1, else dead; works
unfoldable pub failing6 : (r : ℕ) → ℕ → Memory ℕ
failing6 r zero = live (r - 1)
failing6 r (suc g) = dead

abbrev pub row6 : (r : ℕ) → Row ℕ
row6 r = record { start = 0; working = λ i g. live (g - 1); failing = λ i. failing6 r; end = λ g. true }

-- row 7: start clean 0; clean x becomes clean x+1, x at most r - 1, (x, g) becomes (x, g-1), g not below 0; clean x becomes (x, r-1), (x, 0)
-- becomes (x, r-1), else dead; clean works, (x, g) works exactly if x >= g
unfoldable pub working7 : (r : ℕ) → Ring → Memory Ring
working7 r (lead x) = live (lead (min (suc x) (r - 1)))
working7 r (pair x g) = live (pair x (g - 1))

unfoldable pub failing7 : (r : ℕ) → Ring → Memory Ring
failing7 r (lead x) = live (pair x (r - 1))
failing7 r (pair x zero) = live (pair x (r - 1))
failing7 r (pair x (suc g)) = dead

unfoldable pub end7 : Ring → Bool
end7 (lead x) = true
end7 (pair x g) = leb g x

abbrev pub row7 : (r : ℕ) → Row Ring
row7 r = record { start = lead 0; working = λ i. working7 r; failing = λ i. failing7 r; end = end7 }

-- "The memory is the states of the last components, as many as the longest window less one": a number, the last component read its lowest bit, one
-- where it has failed
unfoldable pub longest : List Pair → ℕ
longest [] = 0
longest (p ∷ ps) = max p.r (longest ps)

abbrev pub kept : List Pair → ℕ
kept ps = longest ps - 1

-- "too few working in a window is dead": of the last states x, the one just read among them
abbrev pub lacking_last : ℕ → Pair → Bool
lacking_last x p = too_few p (ones (x % 2 ^ p.r))

unfoldable pub lacking_in : List Pair → ℕ → Bool
lacking_in ps x = any_of (lacking_last x) ps

unfoldable pub remembered : List Pair → ℕ → Memory ℕ
remembered ps x = cond (lacking_in ps x) dead (live (x % 2 ^ kept ps))

-- row 8, of request 05: start all working; a working one read; a failed one read; works
abbrev pub row8 : List Pair → Row ℕ
row8 ps = record { start = 0; working = λ i m. remembered ps (2 * m); failing = λ i m. remembered ps (2 * m + 1); end = λ m. true }

-- the table: a row for each kind, over memories of its own. A kind that has no row never works.
pub record Reading : Type 1 where
  pub Live : Type 0
  pub row : Row Live

abbrev pub reading : {A : Type 0} → Row A → Reading
reading {A} R = record { Live = A; row = R }

abbrev pub row0 : Row ℕ
row0 = record { start = 0; working = λ i c. dead; failing = λ i c. dead; end = λ c. false }

unfoldable pub reading_of : Rule → (beside : List ℕ) → Reading
reading_of rule beside =
    row_of rule.kind (reading row0)
    (reading (row1 rule.first (λ i. 1))
    ∷ reading (row1 rule.first (number_of beside))
    ∷ reading (row3 rule.first rule.second)
    ∷ reading (row4 rule.first)
    ∷ reading (row5 rule.first)
    ∷ reading (row6 rule.second)
    ∷ reading (row7 rule.second)
    ∷ reading (row8 (pairs_of rule.first rule.second beside))
    ∷ [])

abbrev pub machine : (rule : Rule) (beside : List ℕ) → Machine (Memory (reading_of rule beside).Live)
machine rule beside = machine_of (reading_of rule beside).row
