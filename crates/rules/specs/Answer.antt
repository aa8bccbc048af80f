-- Document 01, "Refusal numbers": what each call answers, and what it leaves in the tables that it was lent.
-- "A refusal returns its number and writes nothing."
use Rattle.std.specs.Prelude.{◌≡◌, Bool, true, false, cond, List, ◌++◌, ℕ, zero, suc, ◌<◌, drop, replicate}
use Rattle.rules.specs.declared.Rule.{Rule}
use Rattle.rules.specs.declared.Verdict.{Verdict}
use Rattle.rules.specs.declared.Verdict.TheVariants as verdict
use Rattle.rules.specs.declared.Rating.{Rating}
use Rattle.rules.specs.declared.Rating.TheVariants as rating
use Rattle.rules.specs.declared.Counting.{Counting}
use Rattle.rules.specs.declared.Counting.TheVariants as counting
use Rattle.rules.specs.State.{beside_of}
use Rattle.rules.specs.Verdict.{fails, place_of}
use Rattle.rules.specs.Count.{counts_of}
use Rattle.rules.specs.Asked.{Asked, low_of, high_of}
use Rattle.rules.specs.Refusal.{cells, verdict_refusal, count_refusal, figures_refusal}

-- the refusal where there is one, else the answer
unfoldable pub unless : {A : Type 0} → (refusal : ℕ) (refused : ℕ → A) (answer : A) → A
unless zero refused answer = answer
unless (suc r) refused answer = refused (suc r)

-- What each case of an answer says, given the call's refusal (0 for none) and the values of a call that is not refused. A case `Refused` says that
-- there is a refusal, and gives its number.
abbrev pub Given : (number refusal : ℕ) → Type 0
Given number refusal = (number ≡ refusal) × (0 < refusal)

abbrev pub Judges : Verdict → (refusal : ℕ) (failing : Bool) (place : ℕ) → Type 0
Judges verdict.Works refusal failing place = (refusal ≡ 0) × (failing ≡ false)
Judges (verdict.Fails p) refusal failing place = (refusal ≡ 0) × (failing ≡ true) × (p ≡ place)
Judges (verdict.Refused number) refusal failing place = Given number refusal

abbrev pub Rates : Rating → (refusal low high : ℕ) → Type 0
Rates (rating.Range l h) refusal low high = (refusal ≡ 0) × (l ≡ low) × (h ≡ high)
Rates (rating.Refused number) refusal low high = Given number refusal

abbrev pub Counts : Counting → (refusal : ℕ) → Type 0
Counts counting.Counted refusal = refusal ≡ 0
Counts (counting.Refused number) refusal = Given number refusal

-- "After an accepted call the first 7,800 cells of the working table are 0, cells beyond are untouched"
abbrev pub cleared : List ℕ → List ℕ
cleared table = replicate cells 0 ++ drop cells table

-- the working table after a call
abbrev pub table_after : (refusal : ℕ) → List ℕ → List ℕ
table_after refusal table = unless refusal (λ r. table) (cleared table)

-- the verdict on one state: "works, or fails with a place"
unfoldable pub judgment : (failing : Bool) (place : ℕ) → Verdict
judgment failing place = cond failing (verdict.Fails place) verdict.Works

unfoldable pub judged_of : Rule → (n : ℕ) (weights more : List ℕ) (w : ℕ) → Verdict
judged_of rule n weights more w =
    let beside = beside_of rule weights more in
    judgment (fails rule n beside w) (place_of rule n beside w)

unfoldable pub verdict_of : Rule → (n : ℕ) (weights more : List ℕ) (w : ℕ) → Verdict
verdict_of rule n weights more w = unless (verdict_refusal rule n weights more w) verdict.Refused (judged_of rule n weights more w)

-- the figures: of the stretch that is asked, "as a list of those components alone would"
unfoldable pub figures_of : Asked → (table : List ℕ) → Rating
figures_of q table = unless (figures_refusal q table) rating.Refused (rating.Range (low_of q) (high_of q))

-- the count table's call, and the room for the counts after it: "the count table's first n + 1 cells are written and the rest untouched"
unfoldable pub counting_of : Rule → (n : ℕ) (weights table room : List ℕ) → Counting
counting_of rule n weights table room =
    unless (count_refusal rule n weights table room) counting.Refused counting.Counted

unfoldable pub room_after : (refusal : ℕ) → Rule → (n : ℕ) (weights room : List ℕ) → List ℕ
room_after refusal rule n weights room = unless refusal (λ r. room) (counts_of rule n weights ++ drop (suc n) room)
