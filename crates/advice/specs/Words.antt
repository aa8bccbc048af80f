-- A refusal in words: what it means by the numbers at hand, and what to do about it. K and R are a rule's numbers as a typed text has them (man page deckmake).
use Rattle.std.specs.Prelude.{List, [], ◌∷◌, ℕ, ◌+◌, ◌*◌}
use Rattle.text.specs.Decimal.{text, most_digits}
use Rattle.forms.specs.Form.{most_marks, form_text}
use Rattle.advice.specs.declared.why.Why.{Why}
use Rattle.advice.specs.declared.cause.Cause.{Cause}
use Rattle.advice.specs.declared.cause.Cause.TheVariants.{HeaderShort, UnknownVersion, ZeroFieldSet, FansOut, SystemsOut, BoardsOut, EndsEarly, LaidWrongly, BoardPastLast, NoSuchKind, NoStretch, FanAbove, BoardAbove, TooHeavy, SecondSet, NumberOut, RunOut, WeightOut, NoWeight, BetweenOut, NearOut, NearLacking, RingOut, RingOfOne, LackingOut, FanOutside, Untold}

-- why: the cause, and the numbers that its form is filled with
abbrev pub because : Cause → (a b c d : ℕ) → Why
because cause a b c d = record { cause = cause; a = a; b = b; c = c; d = d }

abbrev pub form_of : Cause → List ℕ
form_of HeaderShort = text "it has # bytes, and its header alone has #; send it again"
form_of UnknownVersion = text "its version is #, and 1 to 3 are known; see that it is a deck file"
form_of ZeroFieldSet = text "its zero field is #; deckmend sets it to 0"
form_of FansOut = text "it has # fans, and a deck has 1 to 64; make it anew with deckmake"
form_of SystemsOut = text "it has # systems, and a deck has 1 to 32; make it anew with deckmake"
form_of BoardsOut = text "it has # boards, and a deck of version 3 has 1 to 4; make it anew with deckmake"
form_of EndsEarly = text "it ends after # of its # bytes; send it again"
form_of LaidWrongly = text "its offsets or its length are wrong; deckmend mends them"
form_of BoardPastLast = text "a fan is on a board past the last, #; make it anew with deckmake"
form_of NoSuchKind = text "there is no kind #; kinds are 1 to #"
form_of NoStretch = text "fans # to # are no stretch of # fans; it runs from fan 1 or later to a fan not before that, # at most"
form_of FanAbove = text "fan # has survival number #; # is the most"
form_of BoardAbove = text "board # has survival number #; # is the most"
form_of TooHeavy = text "its fans weigh # together; 120 is the most"
form_of SecondSet = text "its second number is #; make that 0 and K from 1 to #"
form_of NumberOut = text "# dead of # fans cannot be; K is from 1 to #"
form_of RunOut = text "# in a row of # fans cannot be; K is from 1 to #"
form_of WeightOut = text "weight # of # in all cannot be; K is from 1 to #"
form_of NoWeight = text "its fans have no weight; give them some, K from 1 to their sum and a second number of 0"
form_of BetweenOut = text "# to # dead of # fans cannot be; the first is at most the second, and the second at most #"
form_of NearOut = text "# in # cannot be; K is 2 and R from 2 to 64"
form_of NearLacking = text "# in # cannot be, K is 2; needs # of any # says it"
form_of RingOut = text "# in # round of # fans cannot be; K is 2 and R from 2 to #"
form_of RingOfOne = text "# in # round of one fan cannot be; take more fans, K 2 and R from 2 to how many they are"
form_of LackingOut = text "needs # of any # among # fans cannot be; R is at most # and at most 10, K from 1 to R"
form_of FanOutside = text "fan # is outside the stretch, fans # to #; look at one of those"
form_of Untold = []

-- its text, and the room that it takes at most
abbrev pub numbers_of : Why → List ℕ
numbers_of w = w.a ∷ w.b ∷ w.c ∷ w.d ∷ 0 ∷ 0 ∷ []

unfoldable pub why_text : Why → List ℕ
why_text w = form_text (form_of w.cause) (numbers_of w)

abbrev pub longest_form : ℕ
longest_form = 120

abbrev pub why_room : ℕ
why_room = longest_form + most_digits * most_marks
