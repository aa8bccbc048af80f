-- One change, of a place whose old and new value are known, and what putting it leaves.
use Rattle.std.specs.Prelude.{◌≡◌, cond, not, List, [], ◌∷◌, ℕ, ◌+◌, eqb, length}
use Rattle.writer.specs.Laid.{laid}

abbrev pub change_of : (place old new : ℕ) → List ℕ
change_of place old new = cond (not (eqb old new)) (place ∷ old ∷ new ∷ []) []

pub record Put (place old new at : ℕ) (list after : List ℕ) (next : ℕ) : Type 0 where
  pub put : after ≡ laid at (change_of place old new) list
  pub behind : next ≡ at + length (change_of place old new)
