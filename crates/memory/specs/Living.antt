-- A memory whose number can say that it is dead: dead it stays as it is, and does not work at the end.
use Rattle.std.specs.Prelude.{Bool, false, cond}
use Rattle.rules.specs.Memory.{Machine}

abbrev pub living : {M : Type 0} → (dead : M → Bool) → Machine M → Machine M
living dead K = record {
  start = K.start;
  worked = λ i m. cond (dead m) m (K.worked i m);
  failed = λ i m. cond (dead m) m (K.failed i m);
  ends = λ m. cond (dead m) false (K.ends m);
}
