-- `words::word` meets its contract: the value is what the bytes read so far spell, and has no more bits than they. Assumes nothing.
use Rattle.std.proofs.Common.{◌≡◌, ℕ, ◌+◌, ◌-◌, ◌*◌, ◌^◌, ◌<◌, sym, ◌∙◌, add-zero, arith}
use Rattle.casefile.proofs.Spelling.{no_bytes, next-byte, next-bits, all-bits, word-here, word-past}
use Rattle.casefile.proofs.words.word.Goals as goal
use Rattle.casefile.proofs.words.word.Goals.{After-from, In-loop-i}

pub returns-then-bytes-at : goal.returns-then-bytes-at
returns-then-bytes-at c = word-past _ _ c.if-bytes-at.true

pub overflow_mul-start : goal.overflow_mul-start
overflow_mul-start c = omega arith

pub loop-i-init : goal.loop-i-init
loop-i-init c = (omega arith, sym (no_bytes _ _))

-- a turn's word, with a byte of it
bits : (c : In-loop-i) (b : ℕ) → b < 256
    → c.loop-i.value * 256 + b < 2 ^ (64 - 8 * (c.loop-i.i - 1))
bits c b l = next-bits _ b _ c.loop-i-test.true c.loop-i.auto.i c.loop-i.invariant.0 l

pub overflow_mul-value : goal.overflow_mul-value
overflow_mul-value c = omega (arith, all-bits _ (c.loop-i.i - 1) (bits ((goal.at.overflow_mul-value c).In-loop-i) 0 (omega arith)))

-- the byte of a turn
small : (c : After-from) → c.from.result < 256
small c = omega (arith, c.from.ensures, c.type_inv.bytes (c.args.at * 8 + (c.loop-i.i - 1)))

pub overflow_add-value : goal.overflow_add-value
overflow_add-value c =
    omega (arith, all-bits _ (c.loop-i.i - 1) (bits ((goal.at.overflow_add-value c).In-loop-i) c.from.result (small ((goal.at.overflow_add-value c).After-from))))

pub loop-i-preserved : goal.loop-i-preserved
loop-i-preserved c = (
  bits ((goal.at.loop-i-preserved c).In-loop-i) c.from.result (small ((goal.at.loop-i-preserved c).After-from)),
  rw (c.from.ensures, c.loop-i.invariant.1) (sym (next-byte _ _ c.loop-i.i c.loop-i-test.true c.loop-i.auto.i)),
)

pub returns : goal.returns
returns c =
    let e : c.loop-i.i ≡ 0 = omega arith in
    rw e at c.loop-i.invariant.1 ∙ rw (add-zero (c.args.at * 8)) (word-here c.args.bytes.now c.args.at c.if-bytes-at.false)
