-- What the loading computer's calls answer: the number of the file's system; the worth of one of its fans or the gain of a spare in its place, and the ends afterwards.
use Rattle.std.specs.Prelude.{◌≡◌, List, [], ◌∷◌, ℕ, ℤ}
use Rattle.rules.specs.declared.Worth.{Worth}
use Rattle.rules.specs.declared.Worth.TheVariants.{Ends, Refused}
use Rattle.rules.specs.State.{unit_of}
use Rattle.rules.specs.Answer.{unless}
use Rattle.rules.specs.File.{version_in, file_refusal, packed, loading_of, worth_loading_of, gain_loading_of}

pub record Answered (file : List ℕ) (system r : ℕ) : Type 0 where
  pub number : r ≡ packed (loading_of file system)

-- "answering 0 or the refusal", "nothing written on a refusal"
abbrev pub number_of : Worth → ℕ
number_of (Ends lower upper) = 0
number_of (Refused number) = number

abbrev pub ends_after : Worth → List ℤ → List ℤ
ends_after (Ends lower upper) ends = lower ∷ upper ∷ []
ends_after (Refused number) ends = ends

pub record Told (file : List ℕ) (system fan : ℕ) (e₀ e : List ℤ) (r : ℕ) : Type 0 where
  pub number : r ≡ number_of (worth_loading_of file system fan)
  pub ends : e ≡ ends_after (worth_loading_of file system fan) e₀

-- the gain of a spare with survival number p, in the same way
pub record Gained (file : List ℕ) (system fan p : ℕ) (e₀ e : List ℤ) (r : ℕ) : Type 0 where
  pub number : r ≡ number_of (gain_loading_of file system fan p)
  pub ends : e ≡ ends_after (gain_loading_of file system fan p) e₀

-- request 08, the unit that a file's figures are parts of; 0 for a refused file
unfoldable pub parts_of : List ℕ → ℕ
parts_of file = unless (file_refusal file) (λ r. 0) (unit_of (version_in file))

pub record Parted (file : List ℕ) (r : ℕ) : Type 0 where
  pub number : r ≡ parts_of file
