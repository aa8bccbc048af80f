-- All that is printed of a system: how long it is at most, and that what is put of arrays is what is printed of the stretch. Assumes nothing.
use mathlib.Core.Path.{◌≡◌, refl, ap, ◌∙◌}
use mathlib.Core.Bool.{Bool, true, false, not, cond}
use Prim.Native.Nat.{ℕ, ◌+◌, ◌≤◌}
use native.Mathlib.Nat.{mul-le-mul_left}
use native.Mathlib.Omega.{arith}
use lib.Dec.{eqb}
use lib.ListN.{length, length-append}
use Rattle.rules.specs.State.{S, decimal, unit_of}
use Rattle.rules.specs.Asked.{Asked, size_of}
use Rattle.rules.specs.Refusal.{most}
use Rattle.rules.proofs.Unless.{unless-by, unless-none}
use Rattle.units.specs.Step.{whole}
use Rattle.text.proofs.Digits.{decimal-short}
use Rattle.places.specs.declared.Ends.{Ends}
use Rattle.printing.proofs.Lined.{lines-short}
use Rattle.spares.specs.declared.Places.{Places}
use Rattle.spares.specs.Places.{spare_refusal, AsItIs, Placed}
use Rattle.spares.proofs.Rating.{inside}
use Rattle.pair_lines.specs.Line.{two_text}
use Rattle.pair_lines.proofs.Lengths.{two-short}
use Rattle.spare_lines.specs.declared.Job.{Job}
use Rattle.spare_lines.specs.Lines.{now_of, after_of, gain_line, gain_room, gains_text, refused_line}
use Rattle.spare_lines.specs.Best.{ranked_in, ranked_of, best_text}
use Rattle.spare_lines.specs.System.{shown_of, places_text, answered_text, system_text, system_room}
use Rattle.spare_lines.proofs.Lengths.{gain-short}
use Rattle.spare_lines.proofs.Same.{now-is}
use Rattle.spare_lines.proofs.Rounds.{best-short}

places-short : (job : Job) (q : Asked) → size_of q ≤ most → length (places_text job q) ≤ system_room
places-short job q few = go (eqb job.best 0)
  where
    go : (b : Bool) → length (cond b (gains_text (job.s + 1) job.p q) (best_text (shown_of (job.s + 1) q) job.best (ranked_of q job.p))) ≤ system_room
    go true =
        let all = mul-le-mul_left gain_room few in
        omega (
          arith,
          all,
          lines-short gain_room (size_of q) (λ i. gain_line (job.s + 1) (q.a + i) (after_of q job.p i) (now_of q)) (λ i. gain-short (job.s + 1) (q.a + i) (after_of q job.p i) (now_of q)),
        )
    go false = best-short (shown_of (job.s + 1) q) job.best (ranked_of q job.p) few

-- a refusal's line, and the lines of a stretch that is not refused
pub system-short : (job : Job) (q : Asked) → length (system_text job q) ≤ system_room
system-short job q =
    unless-by (λ t. length t ≤ system_room) (spare_refusal q job.p) (refused_line (job.s + 1)) (answered_text job q)
    (simp length-append (omega (arith, decimal-short (job.s + 1), decimal-short (spare_refusal q job.p))))
    (λ none. go none job.two)
  where
    go : spare_refusal q job.p ≡ 0 → (two : Bool) → length (cond two (two_text (job.s + 1) job.p q) (places_text job q)) ≤ system_room
    go none true = omega (arith, two-short (job.s + 1) job.p q)
    go none false = let within = inside q job.p none in places-short job q (omega arith)

-- what is printed where there is no refusal, for two spares and for one
module _ (job : Job) (q : Asked) (none : spare_refusal q job.p ≡ 0) where
  answered : system_text job q ≡ answered_text job q
  answered = unless-none (spare_refusal q job.p) (refused_line (job.s + 1)) (answered_text job q) none

  pub of_two : job.two ≡ true → system_text job q ≡ two_text (job.s + 1) job.p q
  of_two e = answered ∙ ap (λ b. cond b (two_text (job.s + 1) job.p q) (places_text job q)) e

  pub of_one : job.two ≡ false → system_text job q ≡ places_text job q
  of_one e = answered ∙ ap (λ b. cond b (two_text (job.s + 1) job.p q) (places_text job q)) e

-- the places of the stretch, by the figures in arrays
pub ranked-is : {q : Asked} {p : ℕ} {r : Places} {before : Ends} → Placed q p r → AsItIs q before → ranked_in (size_of q) r before ≡ ranked_of q p
ranked-is {q} placed now = λ x. record { size = size_of q; low = λ i. placed.low i x; high = λ i. placed.high i x; before = now-is now x }

-- the unit by its version
pub decimal-is : (r : Bool) (version : ℕ) → whole r ≡ unit_of version → r ≡ not (eqb version 1)
unfolding whole unit_of
decimal-is r version = go r (eqb version 1)
  where
    go : (r b : Bool) → ◌≡◌ {A = ℕ} (cond r decimal S) (cond b S decimal) → r ≡ not b
    go true true e = absurd (omega arith)
    go true false e = refl
    go false true e = refl
    go false false e = absurd (omega arith)
