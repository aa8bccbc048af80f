-- Document 02, request 11, "Fans behind switchboards": which versions have boards, the fans that fail with theirs, and low, high and E of a rule over fans and
-- boards. `boards` are the fans' board numbers, `switchboards` the boards' survival numbers. A set of failed boards is a word, as a state is: bit b - 1 is one
-- where board b has failed.
use Rattle.std.specs.Prelude.{Bool, false, cond, ◌||◌, List, [], ◌∷◌, ◌++◌, ℕ, zero, suc, ◌+◌, ◌*◌, ◌/◌, ◌%◌, ◌^◌, eqb, length}
use Rattle.rules.specs.declared.Rule.{Rule}
use Rattle.rules.specs.Below.{list_below}
use Rattle.rules.specs.State.{number_of, down}
use Rattle.rules.specs.Verdict.{works}
use Rattle.rules.specs.Figure.{rounded, mixed, figure, exact_if}

-- "Version 3 of the file .. adds a byte per fan and the boards' numbers"
abbrev pub has_boards : (version : ℕ) → Bool
has_boards version = eqb version 3

-- "Versions 1 and 2 read as a deck without boards, unchanged: nothing of boards is read with them": what is read of a list of theirs
abbrev pub boards_read : (version : ℕ) → List ℕ → List ℕ
boards_read version xs = cond (has_boards version) xs []

-- "a board number, 0 for none": has the board of that number failed, where `out` are the failed ones?
unfoldable pub board_down : (out board : ℕ) → Bool
board_down out zero = false
board_down out (suc b) = down b out

-- is fan i on a failed board?
abbrev pub lost : (boards : List ℕ) (out i : ℕ) → Bool
lost boards out i = board_down out (number_of boards i)

-- "with those fans' survival 0"
unfoldable pub behind : (boards : List ℕ) (out : ℕ) (survival : List ℕ) → List ℕ
behind boards out survival = list_below (length survival) (λ i. cond (lost boards out (suc i)) 0 (number_of survival (suc i)))

-- "Then the boards are combined by the same rounded step, one rounding each, board 1 last": f is the figure for each set of failed boards. Board 1 is the lowest
-- bit of a set: the sets without it and those with it are combined over the other boards, and its own step is the last.
unfoldable pub combined : (up : Bool) (u : ℕ) (switchboards : List ℕ) (f : ℕ → ℕ) → ℕ
combined up u [] f = f 0
combined up u (q ∷ qs) f = rounded up u (mixed u q (combined up u qs (λ out. f (out * 2))) (combined up u qs (λ out. f (out * 2 + 1))))

-- "For each set of failed boards the figures are worked with those fans' survival 0": low with rounding down, high with rounding up
abbrev pub figure_behind : (up : Bool) (u : ℕ) → Rule → (survival beside boards switchboards : List ℕ) → ℕ
figure_behind up u rule survival beside boards switchboards =
    combined up u switchboards (λ out. figure up u rule (behind boards out survival) beside)

-- "A failed board fails its fans": the state of the fans i down to 1, where w are those that have failed of themselves and `gone` those on a failed board
unfoldable pub fans_down : (gone : ℕ → Bool) (i w : ℕ) → ℕ
fans_down gone zero w = 0
fans_down gone (suc i) w = cond (gone (suc i) || down i w) (1 * 2 ^ i) 0 + fans_down gone i w

-- a state of "n + g parts", the boards in the bits above the fans': does the system work?
unfoldable pub works_behind : Rule → (n : ℕ) (beside boards : List ℕ) (w : ℕ) → Bool
works_behind rule n beside boards w = works rule n beside (fans_down (lost boards (w / 2 ^ n)) n (w % 2 ^ n))

-- E "sums over n + g parts": the fans 1 to n, then the boards 1 to g
abbrev pub exact_behind : (u : ℕ) → Rule → (survival beside boards switchboards : List ℕ) → ℕ
exact_behind u rule survival beside boards switchboards =
    exact_if (works_behind rule (length survival) beside boards) u (number_of (survival ++ switchboards)) (length survival + length switchboards)
