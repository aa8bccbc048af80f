-- A list in an array of fixed length, and the system that stands where a file has none.
use Rattle.std.specs.Prelude.{List, ◌++◌, ℕ, ◌-◌, length, replicate}
use Rattle.rules.specs.declared.System.{System}

-- a list followed by so many fillers that it has k entries
unfoldable pub padded : {A : Type 0} → (k : ℕ) (filler : A) → List A → List A
padded k filler xs = xs ++ replicate (k - length xs) filler

-- the system of zeros alone
abbrev pub no_system : System
no_system = record { rule = record { kind = 0; first = 0; second = 0 }; a = 0; b = 0 }
