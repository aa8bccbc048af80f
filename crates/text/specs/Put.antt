-- Text put into a buffer: where it fits it stands there, else nothing changes.
use Rattle.std.specs.Prelude.{◌≡◌, Bool, cond, List, ℕ, ◌+◌, ◌-◌, ◌≤◌, leb, length}
use Rattle.std.proofs.Math.Seq.{paste}
use Rattle.text.specs.Decimal.{decimal}

abbrev pub fits : (out : List ℕ) (at : ℕ) (text : List ℕ) → Bool
fits out at text = leb (length text) (length out - at)

pub record Put (out : List ℕ) (at : ℕ) (text after : List ℕ) (end : ℕ) : Type 0 where
  pub within : end ≤ length after
  pub stands : after ≡ cond (fits out at text) (paste out at text (length text)) out
  pub ends : end ≡ cond (fits out at text) (at + length text) at

-- a name, and then a number's digits
pub record PutNamed (out : List ℕ) (at : ℕ) (name : List ℕ) (n : ℕ) (after : List ℕ) (end : ℕ) : Type 0 where
  pub between : List ℕ
  pub place : ℕ
  pub name_put : Put out at name between place
  pub number_put : Put between place (decimal n) after end
