-- What the office's calls answer, and what they leave in what they are lent: of the writer the length, or "(2^32 - 1) times 2^32 plus its number" as the
-- rating's answer; of a chance both ends, exactly or the nearest doubles about it; of a rating asked in doubles the rating's answer.
use Rattle.std.specs.Prelude.{◌≡◌, List, [], ◌∷◌, ℕ, ◌≤◌, length, get_or, replicate, Float}
use Rattle.std.specs.Float.{nan}
use Rattle.rules.specs.declared.Rating.{Rating}
use Rattle.rules.specs.declared.Rating.TheVariants as rating
use Rattle.rules.specs.declared.Writing.{Writing}
use Rattle.rules.specs.declared.Writing.TheVariants.{Written, Refused}
use Rattle.rules.specs.Refusal.{last_version, most_boards, cells}
use Rattle.rules.specs.File.{most_fans, most_systems, packed_refusal, packed, file_length, loading_of}
use Rattle.rules.specs.Writing.{Typed, writing_of, room_written}
use Rattle.rules.specs.Doubles.{Planned, planned_rating, export_of}
use Rattle.doubles.specs.Floats.{Over}
use Rattle.between.specs.Outcome.{Below, Above}
use Rattle.export.specs.declared.Chance.{Chance}
use Rattle.export.specs.declared.Chance.TheVariants as chance

abbrev pub packed_writing : Writing → ℕ
packed_writing (Written size) = size
packed_writing (Refused number) = packed_refusal number

-- the writer's highest refusal, the longest file, and the answers that one number carries
abbrev pub most_refusal : ℕ
most_refusal = 21

abbrev pub longest : ℕ
longest = file_length last_version most_fans most_boards most_systems

abbrev pub Packable : Writing → Type 0
Packable (Written size) = size ≤ longest
Packable (Refused number) = number ≤ most_refusal

pub record Filed (t : Typed) (room after : List ℕ) (r : ℕ) : Type 0 where
  pub number : r ≡ packed_writing (writing_of t room)
  pub written : after ≡ room_written t room

-- request 10, a chance for C: 0 and both ends, or the refusal's number and the ends as they were
abbrev pub number_of : Chance → ℕ
number_of (chance.Range e) = 0
number_of (chance.Refused number) = number

abbrev pub ends_after : Chance → List Float → List Float
ends_after (chance.Range e) ends = e.low ∷ e.high ∷ []
ends_after (chance.Refused number) ends = ends

-- "a pair of floats, or the refusal with no floats": low and high, each as the float that is promised of it
abbrev pub Handed : (Low High : ℕ → Float → Type 0) → Rating → (before after : List Float) (r : ℕ) → Type 0
Handed Low High (rating.Range low high) before after r = (r ≡ 0) × (length after ≡ 2) × Low low (get_or after 0 nan) × High high (get_or after 1 nan)
Handed Low High (rating.Refused number) before after r = (r ≡ number) × (after ≡ before)

-- low and high divided by 2^30
pub record Told (file : List ℕ) (system : ℕ) (before after : List Float) (r : ℕ) : Type 0 where
  pub answer : Handed Over Over (export_of file system) before after r

-- for a file of any version, the double nearest below low over its unit, and the one nearest above high
pub record Bounded (file : List ℕ) (system : ℕ) (before after : List Float) (r : ℕ) : Type 0 where
  pub answer : Handed (Below file) (Above file) (loading_of file system) before after r

-- a rating asked in doubles, "over a working table that the caller brings"
pub record Answered (q : Planned) (r : ℕ) : Type 0 where
  pub number : r ≡ packed (planned_rating q (replicate cells 0))
