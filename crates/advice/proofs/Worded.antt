-- A cause's form filled in is the text of a refusal, and has room: no form is longer than the longest. Assumes nothing.
use mathlib.Core.Path.{◌≡◌}
use mathlib.Core.List.{List}
use Prim.Native.Nat.{ℕ, ◌≤◌}
use native.Mathlib.Omega.{arith}
use lib.ListN.{length}
use Rattle.forms.proofs.Filling.{form-short}
use Rattle.forms.specs.Form.{form_text, form_room, PutText}
use Rattle.advice.specs.declared.why.Why.{Why}
use Rattle.advice.specs.declared.cause.Cause.{Cause}
use Rattle.advice.specs.declared.cause.Cause.TheVariants.{HeaderShort, UnknownVersion, ZeroFieldSet, FansOut, SystemsOut, BoardsOut, EndsEarly, LaidWrongly, BoardPastLast, NoSuchKind, NoStretch, FanAbove, BoardAbove, TooHeavy, SecondSet, NumberOut, RunOut, WeightOut, NoWeight, BetweenOut, NearOut, NearLacking, RingOut, RingOfOne, LackingOut, FanOutside, Untold}
use Rattle.advice.specs.Words.{form_of, numbers_of, why_text, longest_form, why_room}

short-at : (cause : Cause) → length (form_of cause) ≤ longest_form
short-at HeaderShort = omega arith
short-at UnknownVersion = omega arith
short-at ZeroFieldSet = omega arith
short-at FansOut = omega arith
short-at SystemsOut = omega arith
short-at BoardsOut = omega arith
short-at EndsEarly = omega arith
short-at LaidWrongly = omega arith
short-at BoardPastLast = omega arith
short-at NoSuchKind = omega arith
short-at NoStretch = omega arith
short-at FanAbove = omega arith
short-at BoardAbove = omega arith
short-at TooHeavy = omega arith
short-at SecondSet = omega arith
short-at NumberOut = omega arith
short-at RunOut = omega arith
short-at WeightOut = omega arith
short-at NoWeight = omega arith
short-at BetweenOut = omega arith
short-at NearOut = omega arith
short-at NearLacking = omega arith
short-at RingOut = omega arith
short-at RingOfOne = omega arith
short-at LackingOut = omega arith
short-at FanOutside = omega arith
short-at Untold = omega arith

pub worded : {out after : List ℕ} {at end : ℕ} (w : Why) {form numbers : List ℕ} → form ≡ form_of w.cause → numbers ≡ numbers_of w
    → PutText (form_text form numbers) (form_room form) out at after end → PutText (why_text w) why_room out at after end
unfolding why_text
worded {out} {after} {at} {end} w {form} {numbers} is same put =
    let short : length form ≤ longest_form = rw is (short-at w.cause) in
    let texts : form_text form numbers ≡ why_text w = λ i. form_text (is i) (same i) in
    record { within = put.within; added = λ room. rw texts at (put.added (omega (arith, room, short))) }

-- how long a refusal's words are at most
pub why-short : (w : Why) → length (why_text w) ≤ why_room
unfolding why_text
why-short w = omega (arith, form-short (form_of w.cause) (numbers_of w), short-at w.cause)
