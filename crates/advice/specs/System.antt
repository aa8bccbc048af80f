-- Why a system of a deck file is refused, by its own numbers: the causes of 1, 3, 4, 5 and 6, each with a remedy that, carried out, takes the refusal away.
use Rattle.std.specs.Prelude.{cond, ◌&&◌, List, [], ℕ, zero, suc, ◌+◌, ◌-◌, eqb, leb, ltb, length, get_or}
use Rattle.rules.specs.declared.Rule.{Rule}
use Rattle.rules.specs.declared.System.{System}
use Rattle.rules.specs.Below.{within}
use Rattle.rules.specs.State.{unit_of}
use Rattle.rules.specs.Refusal.{last_kind, bad_stretch, ranged}
use Rattle.rules.specs.File.{Deck, system_in, deck_in}
use Rattle.advice.specs.declared.why.Why.{Why}
use Rattle.advice.specs.Words.{because, why_text}
use Rattle.advice.specs.declared.cause.Cause.{Cause}
use Rattle.advice.specs.declared.cause.Cause.TheVariants.{NoSuchKind, NoStretch, FanAbove, BoardAbove, TooHeavy, SecondSet, NumberOut, RunOut, WeightOut, NoWeight, BetweenOut, NearOut, NearLacking, RingOut, RingOfOne, LackingOut, FanOutside}

-- 6, kinds 1, 4 and 5 by a form of their own, kind 2 where the fans have weights: "1 to n" or "1 to the total", "second 0"
abbrev pub one_why : Cause → (first second most : ℕ) → Why
one_why cause first second most = cond (eqb second 0) (because cause first most most 0) (because SecondSet second most 0 0)

abbrev pub weight_why : (first second total : ℕ) → Why
weight_why first second total = cond (eqb total 0) (because NoWeight 0 0 0 0) (one_why WeightOut first second total)

-- kind 6: K is 2. What was meant with another K, kind 8 says of windows that it takes.
abbrev pub lacking_rule : (k r : ℕ) → Rule
lacking_rule k r = record { kind = 8; first = k; second = r }

abbrev pub near_why : (first second n : ℕ) → Why
near_why first second n =
    let needed = second - first + 1 in
    cond (within 1 first second && ranged (lacking_rule needed second) n 0 []) (because NearLacking first second needed second) (because NearOut first second 0 0)

-- kind 7
abbrev pub ring_why : (first second n : ℕ) → Why
ring_why first second n = cond (leb n 1) (because RingOfOne first second 0 0) (because RingOut first second n n)

-- 6, by the rule's kind
unfoldable pub range_why : Rule → (n total : ℕ) → Why
range_why rule n total =
    let first = rule.first in
    let second = rule.second in
    cond (eqb rule.kind 1) (one_why NumberOut first second n)
    (cond (eqb rule.kind 2) (weight_why first second total)
    (cond (eqb rule.kind 3) (because BetweenOut first second n n)
    (cond (eqb rule.kind 6) (near_why first second n)
    (cond (eqb rule.kind 7) (ring_why first second n)
    (cond (eqb rule.kind 8) (because LackingOut first second n n)
    (one_why RunOut first second n))))))

-- 4: the first number from place i on, of so many, that is above a limit; the place behind them where none is
unfoldable pub above_from : (limit : ℕ) (numbers : List ℕ) (i more : ℕ) → ℕ
above_from limit numbers i zero = i
above_from limit numbers i (suc more) = cond (ltb limit (get_or numbers i 0)) i (above_from limit numbers (suc i) more)

-- the fan of the stretch, or else the board; each counts from 1 on the deck
unfoldable pub above_why : (u a b : ℕ) (survival switchboards : List ℕ) → Why
above_why u a b survival switchboards =
    let i = above_from u survival (a - 1) (b - (a - 1)) in
    let j = above_from u switchboards 0 (length switchboards) in
    cond (ltb i b) (because FanAbove (i + 1) (get_or survival i 0) u 0) (because BoardAbove (j + 1) (get_or switchboards j 0) u 0)

-- what the fans from place i on, so many, weigh together
unfoldable pub weight_from : (weights : List ℕ) (i more : ℕ) → ℕ
weight_from weights i zero = 0
weight_from weights i (suc more) = get_or weights i 0 + weight_from weights (suc i) more

-- why a system is refused by a number, over a deck's version and lists: of a stretch that is on the deck, and of any
unfoldable pub rated_why : (version : ℕ) (s : System) (number : ℕ) (survival weights switchboards : List ℕ) → Why
rated_why version s number survival weights switchboards =
    let from = s.a - 1 in
    let n = s.b - from in
    let weight = weight_from weights from n in
    cond (eqb number 4) (above_why (unit_of version) s.a s.b survival switchboards)
    (cond (eqb number 5) (because TooHeavy weight 0 0 0) (range_why s.rule n weight))

unfoldable pub why_of : (version : ℕ) (s : System) (number : ℕ) (survival weights switchboards : List ℕ) → Why
why_of version s number survival weights switchboards =
    let n = length survival in
    cond (eqb number 1) (because NoSuchKind s.rule.kind last_kind 0 0)
    (cond (bad_stretch s.a s.b n) (because NoStretch s.a s.b n n) (rated_why version s number survival weights switchboards))

unfoldable pub system_why : Deck → System → (number : ℕ) → Why
system_why d s number = why_of d.version s number d.survival d.weights d.switchboards

-- and why the worth of a fan to it is: 17 by the fan
unfoldable pub fan_why : Deck → System → (fan number : ℕ) → Why
fan_why d s fan number = cond (eqb number 17) (because FanOutside fan s.a s.b 0) (system_why d s number)

-- in words, of a file's system, counted from 0
abbrev pub system_words : (bytes : List ℕ) (s number : ℕ) → List ℕ
system_words bytes s number = why_text (system_why (deck_in bytes) (system_in bytes s) number)
