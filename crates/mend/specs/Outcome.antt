-- What mending answers, what it leaves in both lent rooms, and what it makes of a file that needs none.
use Rattle.std.specs.Prelude.{◌≡◌, List, [], ℕ}
use Rattle.rules.specs.declared.Mending.{Mending}
use Rattle.rules.specs.Refusal.{last_version}
use Rattle.rules.specs.File.{header_length}
use Rattle.rules.specs.Mending.{mended, changes_in, cut_from, beyond_mending, mend_refusal, Mends, room_mended, list_mended}

pub record Mended (bytes room list room_after listAfter : List ℕ) (r : Mending) : Type 0 where
  pub answered : Mends r (mend_refusal bytes room list) bytes
  pub written : room_after ≡ room_mended bytes room list
  pub told : listAfter ≡ list_mended bytes room list

-- "a sound file comes back the same with an empty list", and none of it is cut
pub record Unchanged (bytes : List ℕ) : Type 0 where
  pub accepted : beyond_mending bytes ≡ 0
  pub same : mended bytes ≡ bytes
  pub none_changed : changes_in bytes ≡ []
  pub none_cut : cut_from bytes ≡ 0

abbrev pub longest_header : ℕ
longest_header = header_length last_version
