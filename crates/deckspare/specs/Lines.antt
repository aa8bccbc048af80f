-- All that deckspare prints for a file that is not refused: each system's lines, of a spare whose survival number a word names as deckmake takes it, in parts of the
-- file's unit or as a decimal; every place, so many of the best, or the best two for two spares. And the room that they take at most.
use Rattle.std.specs.Prelude.{List, ℕ, ◌*◌}
use Rattle.rules.specs.File.{most_systems, version_in, count_in, deck_in, system_in, asked_by}
use Rattle.printing.specs.Lines.{lines_text}
use Rattle.grammar.specs.Numbers.{parts}
use Rattle.spare_lines.specs.declared.Job.{Job}
use Rattle.spare_lines.specs.System.{system_text, system_room}
use Rattle.deckspare.specs.declared.lines.Wanted.{Wanted}

abbrev pub system_lines : (bytes : List ℕ) → Job → List ℕ
system_lines bytes job = system_text job (asked_by (deck_in bytes) (system_in bytes job.s))

abbrev pub job_of : (p : ℕ) → Wanted → (s : ℕ) → Job
job_of p wanted s = record { s = s; p = p; best = wanted.best; two = wanted.two }

abbrev pub systems_text : (p : ℕ) → Wanted → List ℕ → List ℕ
systems_text p wanted bytes = lines_text (count_in bytes) (λ s. system_lines bytes (job_of p wanted s))

abbrev pub list_text : (word : List ℕ) → Wanted → List ℕ → List ℕ
list_text word wanted bytes = systems_text (parts (version_in bytes) word) wanted bytes

abbrev pub output_room : ℕ
output_room = system_room * most_systems
