-- Fans on boards that are not there, one after another.
use Rattle.std.specs.Prelude.{◌≡◌, Bool, cond, not, ◌&&◌, List, [], ◌∷◌, ℕ, eqb, ltb}
use Rattle.text.specs.Decimal.{decimal}
use Rattle.grammar.specs.Text.{fault_at, no_such_board}
use Rattle.listing.specs.declared.ending.ToldLast.{ToldLast}
use Rattle.typed_lists.specs.Told.{MoreTold}

-- a fan told: its board is not there, and its line was not told last
abbrev pub is_unplaced : (g told line board : ℕ) → Bool
is_unplaced g told line board = ltb g board && not (eqb line told)

pub record PassedFan (before : ToldLast) (out : List ℕ) (after : ToldLast) (then : List ℕ) (g at board : ℕ) : Type 0 where
  pub told : MoreTold before.told out after.told then (cond (is_unplaced g before.line at board) (fault_at at (decimal board) no_such_board g ∷ []) [])
  pub line : after.line ≡ cond (is_unplaced g before.line at board) at before.line
