-- `print_got` meets its contract: a read that failed has failed. Assumes nothing.
use mathlib.Core.Path.{refl}
use mathlib.Core.Logic.{inr}
use Rattle.season.proofs.print_got.Goals as goal

pub returns-then-got : goal.returns-then-got
returns-then-got c = record { ends_by = λ bytes h. inr refl; status = refl }
