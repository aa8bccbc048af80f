-- Rules and lines in words, each read off its definition by computing. Assumes nothing.
use mathlib.Core.Path.{◌≡◌, refl}
use Rattle.text.specs.Decimal.{text, digits_in}
use Rattle.wording.specs.Rule.{rule_text}
use Rattle.wording.specs.Lines.{fan_text, system_text}

kind1 : rule_text 1 4 0 ≡ text "fails at 4 dead"
unfolding rule_text digits_in
kind1 = refl

kind2 : rule_text 2 40 0 ≡ text "fails at weight 40"
unfolding rule_text digits_in
kind2 = refl

kind3 : rule_text 3 2 5 ≡ text "fails from 2 to 5 dead"
unfolding rule_text digits_in
kind3 = refl

kind4 : rule_text 4 3 0 ≡ text "fails at 3 in a row"
unfolding rule_text digits_in
kind4 = refl

kind5 : rule_text 5 3 0 ≡ text "fails at 3 in a row round"
unfolding rule_text digits_in
kind5 = refl

kind6 : rule_text 6 2 6 ≡ text "fails at 2 in 6"
unfolding rule_text digits_in
kind6 = refl

kind7 : rule_text 7 2 6 ≡ text "fails at 2 in 6 round"
unfolding rule_text digits_in
kind7 = refl

kind8 : rule_text 8 3 5 ≡ text "needs 3 of any 5"
unfolding rule_text digits_in
kind8 = refl

-- a kind that there is not, and a second number where the kind has none
other-kind : rule_text 9 1 2 ≡ text "kind 9 first 1 second 2"
unfolding rule_text digits_in
other-kind = refl

second-carried : rule_text 1 4 7 ≡ text "kind 1 first 4 second 7"
unfolding rule_text digits_in
second-carried = refl

-- a system of the whole deck, and one of a stretch; a fan with a weight and a board, and one with neither
whole-deck : system_text 12 1 4 0 1 12 ≡ text "system fails at 4 dead\n"
unfolding system_text rule_text digits_in
whole-deck = refl

stretch : system_text 12 1 4 0 3 9 ≡ text "system fails at 4 dead from 3 to 9\n"
unfolding system_text rule_text digits_in
stretch = refl

heavy-fan : fan_text 990000000 30 2 ≡ text "fan 990000000 weight 30 on 2\n"
unfolding fan_text digits_in
heavy-fan = refl

plain-fan : fan_text 990000000 0 0 ≡ text "fan 990000000\n"
unfolding fan_text digits_in
plain-fan = refl
