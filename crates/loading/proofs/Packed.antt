-- Every answer of the calls can be packed, and a call's contract settles its outcome. Assumes nothing.
use mathlib.Core.Path.{◌≡◌, sym, ◌∙◌}
use mathlib.Core.Bool.{Bool, true, false, cond}
use mathlib.Core.List.{List}
use Prim.Native.Nat.{ℕ}
use native.Mathlib.Omega.{arith}
use lib.ListN.{replicate}
use Rattle.rules.specs.declared.System.{System}
use Rattle.rules.specs.declared.Rating.{Rating}
use Rattle.rules.specs.declared.Rating.TheVariants.{Refused}
use Rattle.rules.specs.Refusal.{cells}
use Rattle.rules.specs.File.{Deck, asked_by, bad_number, file_refusal, system_of, packed, loading_of}
use Rattle.rules.proofs.Unless.{unless-by}
use Rattle.rules.proofs.Accepted.{first-le, first-none}
use Rattle.packing.specs.Packing.{most_refusal, Packable}
use Rattle.packing.proofs.Packed.{figures-packable, packed-tells}
use Rattle.loading.specs.Outcome.{Answered}

system-packable : (d : Deck) (s : System) → Packable (system_of d s)
unfolding system_of
system-packable d s = figures-packable (asked_by d s) (replicate cells 0)

pub loading-packable : (bytes : List ℕ) (s : ℕ) → Packable (loading_of bytes s)
unfolding loading_of file_refusal
loading-packable bytes s =
    unless-by Packable _ Refused _
    (first-le 10 _ _ (omega arith) (first-le 11 _ _ (omega arith) (first-le 10 _ _ (omega arith) (first-le 2 _ _ (omega arith) (first-le 12 _ _ (omega arith)
    (first-le 20 _ _ (omega arith) (first-le 13 _ _ (omega arith) (first-le 21 _ _ (omega arith) (first-none most_refusal)))))))))
    (λ e. numbered (bad_number bytes s) _ (system-packable _ _))
  where
    numbered : (b : Bool) (answer : Rating) → Packable answer → Packable (cond b (Refused 14) answer)
    numbered true answer h = omega arith
    numbered false answer h = h

-- any two outcomes that the contract allows are equal
pub one-outcome : {bytes : List ℕ} {s r q : ℕ} → Answered bytes s r → Answered bytes s q → r ≡ q
one-outcome h k = h.number ∙ sym k.number

-- and equal numbers come of equal answers
pub one_answer : (bytes other : List ℕ) (s t : ℕ) → packed (loading_of bytes s) ≡ packed (loading_of other t) → loading_of bytes s ≡ loading_of other t
one_answer bytes other s t e = packed-tells _ _ (loading-packable bytes s) (loading-packable other t) e
