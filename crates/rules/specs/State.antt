-- Document 01, "What is rated" and "The seven verdicts": the unit, the numbers of a component, the state word, the windows.
use Rattle.std.specs.Prelude.{Bool, cond, List, ℕ, zero, suc, ◌+◌, ◌-◌, ◌/◌, ◌%◌, ◌^◌, eqb, get_or}
use Rattle.rules.specs.declared.Rule.{Rule}
use Rattle.rules.specs.Below.{held}

-- "S = 2^30"
abbrev pub S : ℕ
S = 2 ^ 30

-- Document 02, request 08: "parts per 1,000,000,000"
abbrev pub decimal : ℕ
decimal = 1000000000

-- "Version 2 of the deck file has that as its unit; version 1 keeps 2^30"; request 11: version 3 is "in version 2's unit"
unfoldable pub unit_of : (version : ℕ) → ℕ
unit_of version = cond (eqb version 1) S decimal

-- "Component i has a survival number P": the i-th of the list. Weights are read by the component's number too.
unfoldable pub number_of : List ℕ → ℕ → ℕ
number_of xs zero = 0
number_of xs (suc i) = get_or xs i 0

-- "and a failure number Q = S - P"
abbrev pub failure : (u p : ℕ) → ℕ
failure u p = u - p

-- "The rule carries two numbers"
abbrev pub rule_of : (kind first second : ℕ) → Rule
rule_of kind first second = record { kind = kind; first = first; second = second }

-- The list that stands beside the rule and is read with it: kind 2's weights, and since request 05 kind 8's further pairs, two numbers each. No other kind
-- reads one.
abbrev pub beside_of : Rule → (weights more : List ℕ) → List ℕ
beside_of rule weights more = cond (eqb rule.kind 8) more weights

-- "bit i - 1 is one where component i has failed": has component i + 1 failed in the state w?
abbrev pub down : ℕ → ℕ → Bool
down i w = eqb (w / 2 ^ i % 2) 1

-- the window from component a + 1 on, n followed by 1: has the component d places further failed?
abbrev pub window : (n a w : ℕ) → ℕ → Bool
window n a w d = down ((a + d) % n) w

-- "a window is judged by the ones it holds"
abbrev pub held_in : (n a w width : ℕ) → ℕ
held_in n a w width = held (window n a w) width

-- where a window may start: on the ring anywhere, on the line so that it does not run past n
abbrev pub starts : (ring : Bool) (n width : ℕ) → ℕ
starts ring n width = cond ring n (suc n - width)
