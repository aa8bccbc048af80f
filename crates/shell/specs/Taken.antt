-- What reads have taken of an input: how many bytes in all, and whether a read met the input's end or failed.
use Rattle.std.specs.Prelude.{◌≡◌, Bool, true, false, cond, ℕ, ◌+◌, ◌^◌, ◌≤◌, ◌<◌, eqb}
use Rattle.shell.specs.declared.reading.Input.{Input}
use Rattle.shell.specs.declared.reading.Input.TheVariants.{Filled, Failed}
use Rattle.shell.specs.declared.taking.State.{State}
use Rattle.shell.specs.declared.taking.State.TheVariants as state
use Rattle.shell.specs.declared.taking.Taken.{Taken}
use Rattle.shell.specs.declared.reading.Whole.{Whole}

abbrev pub nothing : Taken
nothing = record { count = 0; state = state.Going }

abbrev pub unopened : Taken
unopened = record { count = 0; state = state.Failed }

abbrev pub is_going : State → Bool
is_going state.Going = true
is_going state.Ended = false
is_going state.Failed = false

-- no read met the end or failed
abbrev pub goes_on : Taken → Bool
goes_on t = is_going t.state

abbrev pub is_failed : State → Bool
is_failed state.Going = false
is_failed state.Ended = false
is_failed state.Failed = true

abbrev pub has_failed : Taken → Bool
has_failed t = is_failed t.state

-- with what one read more gave: nothing at the input's end, some, or it failed
abbrev pub taken_with : Taken → Input → Taken
taken_with t (Filled n) = cond (eqb n 0) (record { count = t.count; state = state.Ended }) (record { count = t.count + n; state = state.Going })
taken_with t Failed = record { count = t.count; state = state.Failed }

-- so few bytes that they can be added
abbrev pub Adds : Taken → Input → Type 0
Adds t (Filled n) = t.count + n < 2 ^ 64
Adds t Failed = Unit {0}

-- one read more, of at most so many bytes: it took some and goes on, or none, at the end or where it failed
pub record Took (most : ℕ) (t r : Taken) : Type 0 where
  pub few : r.count ≤ t.count + most
  pub some : goes_on r ≡ true → t.count < r.count
  pub none : goes_on r ≡ false → r.count ≡ t.count

-- reads into a buffer of so many bytes stop at the input's end, where one fails, or where the buffer is full
pub record Fills (most : ℕ) (r : Taken) : Type 0 where
  pub within : r.count ≤ most
  pub stops : goes_on r ≡ true → r.count ≡ most

-- counting stops at the input's end, where a read fails, or at 2^62 bytes, which no input has
abbrev pub most_counted : ℕ
most_counted = 2 ^ 62

pub record Counted (r : Taken) : Type 0 where
  pub few : r.count < 2 ^ 63
  pub stops : goes_on r ≡ true → most_counted ≤ r.count

-- the front of an input is in a buffer; what follows a full one is counted, and nothing else is read
pub record Through (most : ℕ) (r : Whole) : Type 0 where
  pub front : Fills most r.front
  pub few : r.rest.count < 2 ^ 63
  pub full : goes_on r.front ≡ true → Counted r.rest
  pub ended : goes_on r.front ≡ false → r.rest ≡ nothing

abbrev pub unopened_whole : Whole
unopened_whole = record { front = unopened; rest = nothing }
