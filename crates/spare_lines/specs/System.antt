-- All that deckspare prints of a system: its refusal, or every place and what the spare gains there, or the best places, or the best two for two spares. And the room that it takes at most.
use Rattle.std.specs.Prelude.{not, cond, List, ℕ, ◌+◌, eqb}
use Rattle.rules.specs.Asked.{Asked, size_of}
use Rattle.rules.specs.Answer.{unless}
use Rattle.spares.specs.Places.{spare_refusal}
use Rattle.pair_lines.specs.Line.{two_text}
use Rattle.spare_lines.specs.declared.Job.{Job}
use Rattle.spare_lines.specs.declared.best.Shown.{Shown}
use Rattle.spare_lines.specs.Lines.{gains_text, refused_line}
use Rattle.spare_lines.specs.Best.{ranked_of, best_text, best_room}

-- the unit is 2^30 in version 1 alone
abbrev pub shown_of : (system : ℕ) → Asked → Shown
shown_of system q = record { s = system; a = q.a; size = size_of q; decimal = not (eqb q.version 1) }

abbrev pub places_text : Job → Asked → List ℕ
places_text job q =
    cond (eqb job.best 0) (gains_text (job.s + 1) job.p q) (best_text (shown_of (job.s + 1) q) job.best (ranked_of q job.p))

abbrev pub answered_text : Job → Asked → List ℕ
answered_text job q = cond job.two (two_text (job.s + 1) job.p q) (places_text job q)

abbrev pub system_text : Job → Asked → List ℕ
system_text job q = unless (spare_refusal q job.p) (refused_line (job.s + 1)) (answered_text job q)

abbrev pub system_room : ℕ
system_room = best_room
