-- Document 01, "The seven verdicts": the system fails exactly if .., and where
use Rattle.std.specs.Prelude.{Bool, true, false, cond, not, ◌&&◌, List, [], ◌∷◌, ℕ, suc, ◌-◌, ltb, leb}
use Rattle.std.specs.Int.Count.{ones}
use Rattle.rules.specs.declared.Rule.{Rule}
use Rattle.rules.specs.Below.{sum_below, some, first, within, row_of}
use Rattle.rules.specs.State.{number_of, down, held_in, starts}
use Rattle.rules.specs.Pairs.{pairs_of, fails8, first_lacking}

-- row 1: at least k components have failed
abbrev pub fails1 : (k w : ℕ) → Bool
fails1 k w = leb k (ones w)

-- row 2: the failed components' weights add up to k or more
unfoldable pub weight_down : (n : ℕ) (weights : List ℕ) (w : ℕ) → ℕ
weight_down n weights w = sum_below n (λ i. cond (down i w) (number_of weights (suc i)) 0)

abbrev pub fails2 : (k n : ℕ) (weights : List ℕ) (w : ℕ) → Bool
fails2 k n weights w = leb k (weight_down n weights w)

-- row 3: the number failed is at least l and at most h
abbrev pub fails3 : (l h w : ℕ) → Bool
fails3 l h w = within l (ones w) h

-- rows 4, 5 and 7: some `width` components in a row hold `need` failed ones or more
unfoldable pub some_window : (ring : Bool) (n width need w : ℕ) → Bool
some_window ring n width need w = some (λ a. leb need (held_in n a w width)) (starts ring n width)

-- row 6, as request 03 mends it: "two failed components' numbers differ by less than r"
unfoldable pub two_near : (n r w : ℕ) → Bool
two_near n r w = some (λ j. some (λ i. down i w && down j w && ltb (j - i) r) j) n

-- the table: kinds 4 and 5 want all k of k in a row, on the line and on the ring; kind 7 two or more of r on the ring; kind 8
-- fewer working than a pair asks for
unfoldable pub fails : Rule → (n : ℕ) (beside : List ℕ) (w : ℕ) → Bool
fails rule n beside w =
    let first = rule.first in
    let second = rule.second in
    row_of rule.kind true
    (fails1 first w
    ∷ fails2 first n beside w
    ∷ fails3 first second w
    ∷ some_window false n first first w
    ∷ some_window true n first first w
    ∷ two_near n second w
    ∷ some_window true n second 2 w
    ∷ fails8 (pairs_of first second beside) n w
    ∷ [])

abbrev pub works : Rule → (n : ℕ) (beside : List ℕ) (w : ℕ) → Bool
works rule n beside w = not (fails rule n beside w)

-- Document 02, request 04, "Say which fans": "for kinds 4 to 7 the lowest component at which a failing window starts"
unfoldable pub first_window : (ring : Bool) (n width need w : ℕ) → ℕ
first_window ring n width need w = suc (first (λ a. leb need (held_in n a w width)) (starts ring n width))

-- "a kind 6 line no longer than r starts at 1"
unfoldable pub first_near : (n r w : ℕ) → ℕ
first_near n r w = cond (leb n r) 1 (first_window false n r 2 w)

-- "for kinds 1 to 3 place 0"
unfoldable pub place_of : Rule → (n : ℕ) (beside : List ℕ) (w : ℕ) → ℕ
place_of rule n beside w =
    let first = rule.first in
    let second = rule.second in
    row_of rule.kind 0
    (0
    ∷ 0
    ∷ 0
    ∷ first_window false n first first w
    ∷ first_window true n first first w
    ∷ first_near n second w
    ∷ first_window true n second 2 w
    ∷ first_lacking (pairs_of first second beside) n w
    ∷ [])
