-- How a program ends: its exit status.
use Rattle.std.specs.Prelude.{ℤ, pos, negsuc, Bool, true, false, cond, ◌⊎◌, ◌≡◌, ℕ, ◌≤◌, eqb, ltb}
use Rattle.options.specs.declared.Task.{Task}
use Rattle.options.specs.declared.Task.TheVariants.{Help, Version}
use Rattle.shell.specs.declared.starting.Begun.{Begun}

-- what was asked for was written
abbrev pub done : ℤ
done = pos 0

-- the file was refused, or the text has faults
abbrev pub refused : ℤ
refused = pos 1

-- a word was wrong, or something could not be read or written
abbrev pub failed : ℤ
failed = pos 2

-- the status of what a program has found: whether that is a refusal
abbrev pub status_of : Bool → ℤ
status_of b = cond b refused done

-- a status, unless what goes with it could not be written
abbrev pub OrFailed : (status r : ℤ) → Type 0
OrFailed status r = (r ≡ status) ⊎ (r ≡ failed)

-- a file of so many bytes was handed over: there is none of a refused one
abbrev pub Handed : (size : ℕ) (r : ℤ) → Type 0
Handed size r = OrFailed (status_of (eqb size 0)) r

-- what words ask for without work was written, or a word was wrong
abbrev pub answer_status : Task → ℤ
answer_status Help = done
answer_status Version = done
answer_status task = failed

-- one of the three
abbrev pub is_status : ℤ → Bool
is_status (pos n) = ltb n 3
is_status (negsuc n) = false

abbrev pub Status : ℤ → Type 0
Status r = is_status r ≡ true

-- a program has begun: so many bytes of its input are in a buffer, and its status is one of these where it has ended
pub record Begins (most : ℕ) (r : Begun) : Type 0 where
  pub front : r.filled ≤ most
  pub status : Status r.status
