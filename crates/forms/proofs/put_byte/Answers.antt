-- `put_byte` meets its contract: where the buffer is full nothing is put; else the byte is stored behind what stands there. Assumes nothing.
use native.Mathlib.Omega.{arith}
use native.Mathlib.Numerals.{add-one}
use lib.ListN.{length-set}
use lib.Seq.{take-suc-set}
use Rattle.forms.proofs.put_byte.Goals as goal

pub returns-then-at-out : goal.returns-then-at-out
returns-then-at-out c = record { within = omega arith; added = λ room. absurd (omega (arith, c.if-at-out.true, room)) }

pub returns : goal.returns
returns c = record {
  within = simp length-set (omega arith);
  added = λ room. record { ends = omega arith; stands = rw (add-one c.args.at) (take-suc-set c.args.out.now c.args.at c.args.byte (omega (arith, room))) };
}
